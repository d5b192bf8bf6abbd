-- One entry more at the end of a log.
use Rattle.std.proofs.Common.{◌≡◌, ℕ, ◌+◌, ◌<◌, List, [], ◌∷◌, ◌++◌, map, length, get_or, take, set, sym, ap, ◌∙◌, subst, arith}
use Rattle.std.proofs.lemmas.List.{take_at, take_all, take_more, take_more_set, map_push}
use Rattle.player.specs.declared.call.Call.{Call}
use Rattle.player.specs.Answers.{Answer}
use Rattle.player.specs.Steps.{World}
use Rattle.player.specs.Runs.{Event, event, account, Agrees}
use Rattle.player.proofs.Stepping.{laws_hold}
use Rattle.account.specs.Laws.{Laws}
use Rattle.playing.specs.declared.entry.Entry.{Entry}
use Rattle.playing.specs.Logs.{call_of, event_of}

-- the buffer of an event is the front of its page
pub front : (n : ℕ) (buf rest : List ℕ) (log : List Event) (c : Call) (told : Answer) (w : World) → length buf ≡ n
    → Agrees (account (log ++ (event c told buf ∷ []))) w → Agrees (account (log ++ (event c told (take n (buf ++ rest)) ∷ []))) w
front n buf rest log c told w e h = subst (λ b. Agrees (account (log ++ (event c told b ∷ []))) w) (sym (take_at buf rest n e)) h

pub brought_more : (calls : List Call) (i : ℕ) (d : Call) (log : List Entry) (e : Entry) → i < length calls → i < length log → e.call ≡ get_or calls i d
    → map call_of (take i log) ≡ take i calls → map call_of (take (i + 1) (set log i e)) ≡ take (i + 1) calls
brought_more calls i d log e h k is inv =
    let m = take_more_set log i e k in
    let p = map_push call_of (take i log) e in
    let t = take_more calls i d h in
    ap (map call_of) m ∙ (p ∙ ((λ j. inv j ++ (is j ∷ [])) ∙ sym t))

pub agrees_more : (i : ℕ) (log : List Entry) (e : Entry) (w : World) → i < length log
    → Agrees (account (map event_of (take i log) ++ (event_of e ∷ []))) w → Agrees (account (map event_of (take (i + 1) (set log i e)))) w
agrees_more i log e w k h = subst (λ l. Agrees (account l) w) (sym (ap (map event_of) (take_more_set log i e k) ∙ map_push event_of (take i log) e)) h

pub all_played : (calls : List Call) (i : ℕ) (log : List Entry) (w : World) → i ≡ length calls → map call_of (take i log) ≡ take i calls
    → Agrees (account (map event_of (take i log))) w
    → (map call_of (take (length calls) log) ≡ calls) × Laws (account (map event_of (take (length calls) log))) w.state
all_played calls i log w e inv g = (
  subst (λ n. map call_of (take n log) ≡ take n calls) e inv ∙ take_all (length calls) calls (omega arith),
  subst (λ n. Laws (account (map event_of (take n log))) w.state) e (laws_hold (account (map event_of (take i log))) w g),
)
