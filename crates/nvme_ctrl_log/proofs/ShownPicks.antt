-- A pick takes a command that waits, whatever queues are held and whatever classes are set.
use Rattle.std.proofs.Common.{◌≡◌, ℕ, ◌≤◌, ◌<◌, ◌==◌, Bool, true, false, if◌then◌else◌, List, [], ◌∷◌, length, map, find, Some, refl, sym, ap, ◌∙◌, subst, arith, inl, inr}
use Rattle.std.proofs.lemmas.Bool.{eqb-true}
use Rattle.std.proofs.lemmas.Option.{same_Some}
use Rattle.nvme_arbiter.specs.Laws.{IsMeasured}
use Rattle.nvme_arbiter.specs.History.{settings_after}
use Rattle.nvme_arbiter.specs.Lawful.{IsLimitedRun}
use Rattle.nvme_arbiter.specs.declared.pick.Pick.{Pick}
use Rattle.nvme_arbiter.specs.declared.pick.Seen.{Seen}
use Rattle.nvme_arbiter.proofs.PickLaws.{limited_are_measured}
use Rattle.nvme_log.specs.declared.event.Event.{Event}
use Rattle.nvme_log.specs.declared.event.Event.TheVariants as event
use Rattle.nvme_log.specs.Rules.{FrontRules, Each}
use Rattle.nvme_log.specs.Queues.{open_sq}
use Rattle.nvme_log.specs.Places.{waiting, observation_of}
use Rattle.nvme_log.specs.Histories.{arbitration_of}
use Rattle.nvme_log.proofs.LoadedPlaces.{seen-in}
use Rattle.nvme_log.proofs.LogLengths.{TakesWaiting, TakesSome}
use Rattle.nvme_log.proofs.Members.{IsIn}
use Rattle.nvme_ctrl_log.specs.Notes.{Notes, Logged, EachNote, logged}
use Rattle.nvme_ctrl_log.specs.Observation.{is_held, shown, observed_of}
use Rattle.nvme_ctrl_log.specs.Account.{IsLawful}
use Rattle.nvme_ctrl_log.proofs.TakenCommands.{lawful-before}

-- what is found in a list is in it
found-in : {T : Type 0} (t : T → Bool) (x : T) (xs : List T) → find t xs ≡ Some x → IsIn x xs × (t x ≡ true)
found-in t x [] h = cc h
found-in t x (y ∷ xs) h = by (t y) refl h (found-in t x xs) where
  by : (b : Bool) → t y ≡ b → (if b then Some y else find t xs) ≡ Some x → (find t xs ≡ Some x → IsIn x xs × (t x ≡ true)) → IsIn x (y ∷ xs) × (t x ≡ true)
  by true e is rest = (inl (same_Some y x is), ap t (sym (same_Some y x is)) ∙ e)
  by false e is rest = let it = rest is in (inr it.0, it.1)

-- what arbitration sees of a queue is that of an open queue of the log, with no more commands
record IsShown (notes : Notes) (xs : List Seen) (s : Seen) : Type 0 where
  seen : Seen
  inside : IsIn seen xs
  same : s.qid ≡ seen.qid
  few : s.count ≤ seen.count

is-shown : (notes : Notes) (xs : List Seen) (s : Seen) → IsIn s (map (shown notes) xs) → IsShown notes xs s
is-shown notes [] s h = absurd h
is-shown notes (x ∷ xs) s (inl e) = record {
  seen = x;
  inside = inl refl;
  same = ap (λ (y : Seen). y.qid) (sym e);
  few = (let count : s.count ≡ (if is_held notes x.qid then 0 else x.count) = ap (λ (y : Seen). y.count) (sym e) in let less = by (is_held notes x.qid) in omega (arith, count, less));
} where
  by : (b : Bool) → (if b then 0 else x.count) ≤ x.count
  by true = omega arith
  by false = omega arith
is-shown notes (x ∷ xs) s (inr k) =
    let it = is-shown notes xs s k in
    record { seen = it.seen; inside = inr it.inside; same = it.same; few = it.few }

-- the first of some
record Split (xs : List ℕ) : Type 0 where
  first : ℕ
  others : List ℕ
  is : xs ≡ first ∷ others

split-of : (xs : List ℕ) → 0 < length xs → Split xs
split-of [] h = absurd (omega (arith, h))
split-of (x ∷ xs) h = record { first = x; others = xs; is = refl }

-- so a pick takes one that waits
takes-shown : (rules : FrontRules) (notes : Notes) (seen : List Seen) (pick : Pick) → seen ≡ observed_of notes
    → IsMeasured rules.mechanism (settings_after rules.start.settings (arbitration_of (logged notes))) seen pick → TakesWaiting (logged notes) pick
takes-shown rules notes seen pick is measured =
    let found = found-in (λ (x : Seen). x.qid == pick.qid) measured.queue seen measured.was_seen in
    let it = is-shown notes (observation_of (logged notes)) measured.queue (subst (IsIn measured.queue) is found.0) in
    let sees = seen-in (logged notes) it.seen it.inside in
    let qid : it.seen.qid ≡ pick.qid = sym it.same ∙ eqb-true measured.queue.qid pick.qid found.1 in
    let is_open : open_sq (logged notes) pick.qid ≡ Some sees.queue = ap (open_sq (logged notes)) (sym qid) ∙ sees.is_open in
    let one = measured.at_least_one in
    let within = measured.within_count in
    let few = it.few in
    let counts = sees.counts in
    let split = split-of (waiting (logged notes) sees.queue.region) (omega (arith, one, within, few, counts)) in
    record { queue = sees.queue; is_open = is_open; some = omega (arith, one); first = split.first; others = split.others; wait = split.is }

-- and so does each pick of a log
pub picks-take : (rules : FrontRules) (notes : Notes) → EachNote (IsLawful rules) notes → IsLimitedRun rules.mechanism rules.start.settings (arbitration_of (logged notes)) → Each TakesSome (logged notes)
picks-take rules [] h l = tt
picks-take rules (Logged e ∷ notes) h l = (here e h l, picks-take rules notes h.1 (lawful-before rules e (logged notes) l)) where
  here : (e : Event) → EachNote (IsLawful rules) (Logged e ∷ notes) → IsLimitedRun rules.mechanism rules.start.settings (arbitration_of (e ∷ logged notes)) → TakesSome (logged notes) e
  here (event.Pick seen pick) h l = takes-shown rules notes seen pick h.0.observed (limited_are_measured rules.mechanism rules.start.settings (arbitration_of (logged notes)) seen pick l.0 l.1)
  here e h l = tt
picks-take rules (note ∷ notes) h l = picks-take rules notes h.1 l
