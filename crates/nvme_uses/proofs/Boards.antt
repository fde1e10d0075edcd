-- What a pick does to what a board served.
use Rattle.std.proofs.Common.{◌≡◌, ℕ, ◌+◌, ◌-◌, ◌<◌, ◌≤◌, ◌==◌, inl, inr, if◌then◌else◌, List, [], ◌∷◌, ◌++◌, length, set, refl, sym, ap, ◌∙◌, arith}
use Rattle.std.specs.Prelude.{Option, Some, None, option_map, reverse, replicate, slice_set}
use Rattle.std.proofs.lemmas.List.{get_or-set_same, get_or-set_other, get_or_past, get_or-replicate, length-replicate, length-set, reverse-append}
use Rattle.std.proofs.lemmas.Bool.{eq-eqb, ne_eqb, cases_eq, cases_lt, cond-true, cond-false}
use Rattle.nvme_arbiter.specs.Settings.{ArbitrationFields}
use Rattle.nvme_arbiter.specs.History.{History, Picked, settings_after}
use Rattle.nvme_arbiter.specs.Lawful.{lawful_pick}
use Rattle.nvme_arbiter.specs.Laws.{IsMeasured}
use Rattle.nvme_arbiter.specs.Queues.{queue_at, seen_of, seen_as, fewer}
use Rattle.nvme_arbiter.specs.Board.{BoardView, BoardStandsAt, queues_after}
use Rattle.nvme_arbiter.specs.declared.settings.Mechanism.{Mechanism}
use Rattle.nvme_arbiter.specs.declared.settings.Class.{Class}
use Rattle.nvme_arbiter.specs.declared.pick.OpenQueue.{OpenQueue}
use Rattle.nvme_arbiter.specs.declared.pick.Pick.{Pick}
use Rattle.nvme_arbiter.specs.declared.pick.Seen.{Seen}
use Rattle.nvme_arbiter.proofs.PickLaws.{picks_are_measured}
use Rattle.nvme_arbiter.proofs.MaskLemmas.{find_qid}
use Rattle.nvme_uses.specs.Served.{HasServed, waits, count_of, taken}

-- an open queue stands in the list
open_within : (queues : List (Option OpenQueue)) (q : ℕ) (o : OpenQueue) → queue_at queues q ≡ Some o → q < length queues
open_within queues q o e =
    elim (cases_lt q (length queues)) [
      | inl l ↦ l
      | inr l ↦ (let none : None ≡ Some o = sym (get_or_past queues q None l) ∙ e in absurd (cc))
    ]

-- in no queue a command waits
abbrev AreEmpty : List (Option OpenQueue) → Type 0
AreEmpty queues = (q : ℕ) → count_of (queue_at queues q) ≡ 0

-- so it is where none is open
pub none_waits : (n : ℕ) → AreEmpty (replicate n None)
none_waits n q =
    elim (cases_lt q n) [
      | inl l ↦ ap count_of (get_or-replicate n q None None l)
      | inr g ↦ (let none : Option OpenQueue = None in ap count_of (get_or_past (replicate n none) q None (omega (arith, length-replicate n none, g))))
    ]

-- and where one is opened
pub opened_waits : (queues : List (Option OpenQueue)) (qid : ℕ) (class : Class) → AreEmpty queues → AreEmpty (slice_set queues qid (Some (record { class = class; count = 0 })))
opened_waits queues qid class none q =
    let it : Option OpenQueue = Some (record { class = class; count = 0 }) in
    elim (cases_eq q qid) [
      | inl same ↦
          elim (cases_lt qid (length queues)) [
            | inl l ↦ ap (λ (i : ℕ). count_of (queue_at (set queues qid it) i)) same ∙ ap count_of (get_or-set_same queues qid it None l)
            | inr g ↦ ap count_of (get_or_past (set queues qid it) q None (omega (arith, length-set queues qid it, g, same)))
          ]
      | inr other ↦ ap count_of (get_or-set_other queues qid q it None other) ∙ none q
    ]

-- what a pick takes of a queue
abbrev of_pick : ℕ → Pick → ℕ
of_pick q pick = if q == pick.qid then pick.n else 0

taken_more : (q : ℕ) (picks : List Pick) (pick : Pick) → taken q (picks ++ pick ∷ []) ≡ taken q picks + of_pick q pick
taken_more q [] pick = omega arith
taken_more q (p ∷ rest) pick = let more = taken_more q rest pick in omega arith

-- what was taken by a pick waits no longer
waits_less : (queues : List (Option OpenQueue)) (pick : Pick) (o : OpenQueue) → queue_at queues pick.qid ≡ Some o → pick.n ≤ o.count
    → (q : ℕ) → of_pick q pick + count_of (queue_at (queues_after queues pick) q) ≡ count_of (queue_at queues q)
waits_less queues pick o e few q =
    elim (cases_eq q pick.qid) [
      | inl same ↦ (
          let there : queue_at (queues_after queues pick) pick.qid ≡ Some (fewer pick.n o) =
          get_or-set_same queues pick.qid (option_map (fewer pick.n) (queue_at queues pick.qid)) None (open_within queues pick.qid o e) ∙ ap (option_map (fewer pick.n)) e in
          let here : count_of (queue_at (queues_after queues pick) q) ≡ o.count - pick.n = ap (λ i. count_of (queue_at (queues_after queues pick) i)) same ∙ ap count_of there in
          let was : count_of (queue_at queues q) ≡ o.count = ap (λ i. count_of (queue_at queues i)) same ∙ ap count_of e in
          let took : of_pick q pick ≡ pick.n = cond-true (q == pick.qid) pick.n 0 (eq-eqb q pick.qid same) in
          omega arith)
      | inr other ↦ (
          let here : count_of (queue_at (queues_after queues pick) q) ≡ count_of (queue_at queues q) = ap count_of (get_or-set_other queues pick.qid q _ None other) in
          let took : of_pick q pick ≡ 0 = cond-false (q == pick.qid) pick.n 0 (ne_eqb q pick.qid other) in
          omega arith)
    ]

-- a lawful pick is of an open queue, in which at least as many commands wait
record IsOfOpen (queues : List (Option OpenQueue)) (pick : Pick) : Type 0 where
  queue : OpenQueue
  there : queue_at queues pick.qid ≡ Some queue
  few : pick.n ≤ queue.count

shown_open : (v : Option OpenQueue) (queues : List (Option OpenQueue)) (pick : Pick) (s : Seen) → queue_at queues pick.qid ≡ v → option_map (seen_as pick.qid) v ≡ Some s → pick.n ≤ s.count → IsOfOpen queues pick
shown_open None queues pick s e shown few = absurd (cc)
shown_open (Some o) queues pick s e shown few =
    let same : o.count ≡ s.count = cc in
    record { queue = o; there = e; few = omega arith }

of_open : (queues : List (Option OpenQueue)) (pick : Pick) (mechanism : Mechanism) (settings : ArbitrationFields) → IsMeasured mechanism settings (seen_of queues) pick → IsOfOpen queues pick
of_open queues pick mechanism settings m = shown_open (queue_at queues pick.qid) queues pick m.queue refl (sym (find_qid queues pick.qid) ∙ m.was_seen) m.within_count

-- a board served one lawful pick more
pub served_one : (mechanism : Mechanism) (first : ArbitrationFields) (came : ℕ → ℕ) (picks after : List Pick) (pick : Pick) (old new : BoardView)
    → ((past : History) → BoardStandsAt mechanism first past old → Some pick ≡ lawful_pick mechanism first past (seen_of old.queues))
    → ((past : History) → BoardStandsAt mechanism first past old → BoardStandsAt mechanism first (Picked (seen_of old.queues) pick ∷ past) new)
    → new.queues ≡ queues_after old.queues pick → after ≡ picks ++ pick ∷ []
    → HasServed mechanism first came picks old → HasServed mechanism first came after new
served_one mechanism first came picks after pick old new lawful stands queues appended served =
    let is_lawful = sym (lawful served.past served.stands) in
    let measured = picks_are_measured mechanism first served.past (seen_of old.queues) pick served.stands.observed is_lawful in
    let found = of_open old.queues pick mechanism (settings_after first served.past) measured in
    record {
      all = λ q.
          let was = served.all q in
          let took : taken q after ≡ taken q picks + of_pick q pick = ap (taken q) appended ∙ taken_more q picks pick in
          let less : of_pick q pick + waits new q ≡ waits old q = ap (λ z. of_pick q pick + count_of (queue_at z q)) queues ∙ waits_less old.queues pick found.queue found.there found.few q in
          omega arith;
      past = Picked (seen_of old.queues) pick ∷ served.past;
      picks_are = ap (λ z. pick ∷ z) served.picks_are ∙ sym (ap reverse appended ∙ reverse-append picks (pick ∷ []));
      lawful = (served.stands.observed, is_lawful, served.lawful);
      stands = stands served.past served.stands;
    }
