mod Fairness
