-- A new relay is faithful to the empty account.
use Rattle.std.proofs.Common.{◌≡◌, ℕ, zero, suc, ◌+◌, ◌≤◌, Bool, true, false, cond, ltb, List, [], length, get_or, replicate, sym, refl, ap, ◌∙◌, subst, arith}
use lib.ListN.{length-replicate}
use Rattle.text.specs.Forms.{is_address}
use Rattle.message_rows.specs.declared.message.MessageRow.{MessageRow}
use Rattle.spool.specs.Meaning.{at}
use Rattle.standing.specs.declared.standing.Standing.{Standing}
use Rattle.standing.specs.declared.standing.Standing.TheVariants.{Free}
use Rattle.relay.specs.States.{fresh}
use Rattle.account.specs.Records.{is_message}
use Rattle.account.specs.Accounts.{empty}
use Rattle.account.specs.Laws.{All, Any, Pairs, statuses_in}
use Rattle.account.specs.Faith.{Matches, Faithful}
use Rattle.account.proofs.Lists.{true_false}
use Rattle.account.proofs.Known.{empty_no_message}

-- each of n times x is x, past the last too
each_same : {A : Type 0} (n i : ℕ) (x : A) → get_or (replicate n x) i x ≡ x
each_same zero i x = refl
each_same (suc n) zero x = refl
each_same (suc n) (suc i) x = each_same n i x

always : (v : Bool) (x : Standing) → x ≡ Free → cond v x Free ≡ Free
always true x e = e
always false x e = refl

-- of n free standings
stands_free : (n m p : ℕ) → cond (ltb p m) (get_or (replicate n Free) p Free) Free ≡ Free
stands_free n m p = always (ltb p m) (get_or (replicate n Free) p Free) (each_same n p Free)

no_statuses : (n : ℕ) → statuses_in (replicate n []) ≡ 0
no_statuses zero = refl
no_statuses (suc n) = let e = no_statuses n in omega (arith, e)

pub begins : (address : List ℕ) (places : List (List ℕ)) (rows : List MessageRow) → is_address address ≡ true → length places ≤ 256 → Faithful empty (fresh address places) rows
unfolding All Any Pairs
begins address places rows ok few =
    record {
      same_time = refl;
      address = ok;
      table = length-replicate 256 Free;
      few = subst (λ n. n ≤ 256) (sym (length-replicate (length places) [])) few;
      unused = λ p le. stands_free 256 256 p;
      matched = λ p lt. subst (λ st. Matches st (at p (replicate (length places) []))) (sym (stands_free 256 256 p)) (each_same (length places) p []);
      each = tt;
      pairs = tt;
      no_other = λ p full. true_false (is_message []) (sym (ap is_message (each_same (length places) p [])) ∙ full) empty_no_message;
      balance = sym (ap (λ n. n + 0 + 0 + 0 + 0) (no_statuses (length places)));
    }
