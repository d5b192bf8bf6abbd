-- One turn of playing a list of calls.
use Rattle.std.proofs.Common.{◌≡◌, ℕ, ◌+◌, ◌<◌, List, [], ◌∷◌, ◌++◌, map, length, get_or, take, drop, set, refl, sym, ap, ◌∙◌, subst, arith, append_assoc}
use Rattle.std.proofs.lemmas.List.{take_more_set, map_push, drop_more, drop_all, drop-set-lt, drop-drop, append-nil}
use Rattle.player.specs.declared.call.Call.{Call}
use Rattle.player.specs.Answers.{Answer, answer_of}
use Rattle.player.specs.Steps.{World, Stepped, stepped, after}
use Rattle.player.specs.Runs.{Event, event}
use Rattle.playing.specs.declared.entry.Entry.{Entry}
use Rattle.playing.specs.Logs.{front_of}
use Rattle.playing.specs.Plays.{paged, entered, left_by, log_of, shown, Played}

-- a call made with the first n bytes of a page, the whole page seen
pub entered_is : (n : ℕ) (w w' : World) (c : Call) (told : Answer) (page buf : List ℕ) → n ≡ front_of c
    → after told w' buf ≡ stepped w c (take n page) → after told w' (buf ++ drop n page) ≡ entered w c page
entered_is n w w' c told page buf e h =
    ap (λ (s : Stepped). paged s (drop n page)) h ∙ ap (λ (k : ℕ). paged (stepped w c (take k page)) (drop k page)) e

-- i calls were made: what the rest gives from here is what all give from the start
pub record Playing (w : World) (calls : List Call) (old : List Entry) (i : ℕ) (log : List Entry) (now : World) : Type 0 where
  pub left : left_by now (drop i calls) (drop i log) ≡ left_by w calls old
  pub entries : map shown (take i log) ++ log_of now (drop i calls) (drop i log) ≡ log_of w calls old
  pub rest : drop i log ≡ drop i old

module _ (w : World) (calls : List Call) (old : List Entry) where
  pub begins : (now : World) → now ≡ w → Playing w calls old 0 old now
  begins now e = subst (λ (v : World). Playing w calls old 0 old v) (sym e) (record { left = refl; entries = refl; rest = refl })

  pub turn : (i : ℕ) (d : Call) (f : Entry) (log : List Entry) (e : Entry) (now next : World) → i < length calls → i < length log
      → e.call ≡ get_or calls i d → after (answer_of e.told) next e.page ≡ entered now (get_or calls i d) (get_or log i f).page
      → Playing w calls old i log now → Playing w calls old (i + 1) (set log i e) next
  turn i d f log e now next h k is out p =
      let c = get_or calls i d in
      let s = entered now c (get_or log i f).page in
      let cs : drop i calls ≡ c ∷ drop (i + 1) calls = drop_more calls i d h in
      let es : drop i log ≡ get_or log i f ∷ drop (i + 1) log = drop_more log i f k in
      let same : drop (i + 1) (set log i e) ≡ drop (i + 1) log = drop-set-lt (i + 1) log i e (omega arith) in
      let world : next ≡ s.world = ap (λ (t : Stepped). t.world) out in
      let front : map shown (take (i + 1) (set log i e)) ≡ map shown (take i log) ++ (shown e ∷ []) = ap (map shown) (take_more_set log i e k) ∙ map_push shown (take i log) e in
      let here : shown e ≡ event c s.told s.buffer = λ j. event (is j) (out j).told (out j).buffer in
      let after_it = log_of s.world (drop (i + 1) calls) (drop (i + 1) log) in
      record {
        left = (λ j. left_by (world j) (drop (i + 1) calls) (same j)) ∙ sym (λ j. left_by now (cs j) (es j)) ∙ p.left;
        entries =
            (λ j. front j ++ log_of (world j) (drop (i + 1) calls) (same j))
            ∙ append_assoc (map shown (take i log)) (shown e ∷ []) after_it
            ∙ ap (λ (t : Event). map shown (take i log) ++ (t ∷ after_it)) here
            ∙ sym (λ j. map shown (take i log) ++ log_of now (cs j) (es j))
            ∙ p.entries;
        rest = same ∙ sym (drop-drop 1 i log) ∙ ap (drop 1) p.rest ∙ drop-drop 1 i old;
      }

  pub ends : (i : ℕ) (log : List Entry) (now : World) → i ≡ length calls → Playing w calls old i log now → Played w calls old log now
  ends i log now e p =
      let none : drop i calls ≡ [] = drop_all i calls (omega arith) in
      record {
        left = sym (λ j. left_by now (none j) (drop i log)) ∙ p.left;
        entries =
            ap (λ (n : ℕ). map shown (take n log)) (sym e)
            ∙ sym (append-nil (map shown (take i log)))
            ∙ sym (λ j. map shown (take i log) ++ log_of now (none j) (drop i log))
            ∙ p.entries;
        rest = subst (λ (n : ℕ). drop n log ≡ drop n old) e p.rest;
      }
