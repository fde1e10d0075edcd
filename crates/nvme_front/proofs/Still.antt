-- What a turn's answer means, from the answers of its parts.
use Rattle.std.proofs.Common.{◌≡◌, ◌≢◌, ℕ, ◌+◌, ◌<◌, ◌≤◌, Bool, true, false, ◌||◌, List, [], length, Option, Some, None, refl, sym, ap, ◌∙◌, subst, arith, ◌⊎◌, inl, inr}
use Rattle.std.specs.Prelude.{IfSome, IsSome, reverse}
use Rattle.std.specs.List.{All}
use Rattle.std.proofs.lemmas.List.{length-append}
use Rattle.nvme_pool.specs.Seat.{Ends, IsUnknown}
use Rattle.nvme_arbiter.specs.Limits.{highest_qid}
use Rattle.nvme_arbiter.specs.declared.pick.Pick.{Pick}
use Rattle.nvme_log.specs.declared.event.Event.{Event}
use Rattle.nvme_log.specs.Limits.{admin_events}
use Rattle.nvme_log.specs.Rules.{Past, window_at}
use Rattle.nvme_log.specs.Queues.{Queue, Deletion, open_sq, pending}
use Rattle.nvme_log.specs.Places.{waiting}
use Rattle.nvme_log.specs.Histories.{picks_in}
use Rattle.nvme_jobs.specs.Hands.{gained_count}
use Rattle.nvme_jobs.specs.inside.Jobs.{JobsView}
use Rattle.nvme_front.specs.declared.front.Step.{Step}
use Rattle.nvme_front.specs.declared.front.Step.TheVariants.{Picked, Moved, Idle, Stalled}
use Rattle.nvme_front.specs.declared.front.FrontError.{FrontError}
use Rattle.nvme_front.specs.declared.front.FrontError.TheVariants.{NoMemory, LogFull, Stray}
use Rattle.nvme_front.specs.declared.state.FrontState.{FrontState}
use Rattle.nvme_front.specs.inside.State.{rules_of, past_of, view_of}
use Rattle.nvme_front.specs.inside.Room.{IsConsistent}
use Rattle.nvme_front.specs.inside.Goes.{Goes, IsSame, HasAdmin, AllScanned}
use Rattle.nvme_front.specs.View.{FrontView, past_in, known_in, HasMoved, HasUnposted, IsStill, GainedStray, IsIdleFront, IsStalledFront, NoneCanBePosted, StepMeans, ErrorMeans, LacksPlaces, next_lawful}
use Rattle.nvme_front.specs.inside.Turn.{Balanced, LacksAdminEvents, IsQuiet, HasDone, IsWaiting, NeedsPlaces, Proceeds, told_after}
use Rattle.nvme_front.proofs.States.{Goes-same, IsSame-trans, admin-goes, same_view, rules-goes}
use Rattle.nvme_front.proofs.Turns.{idle_front, deleting_front, stalled_front, admin_log_full}
pub use Rattle.nvme_front.proofs.Weighing.{balanced_still, balanced_same, balanced_trans, stray_since}

-- a later log is no shorter
pub log_grown : (a b : FrontState) → Goes a b → length a.log.items ≤ length b.log.items
log_grown a b g =
    let e : length a.log.items + length g.grew.0 ≡ length b.log.items = sym (length-append a.log.items g.grew.0) ∙ ap (λ (xs : List Event). length xs) g.grew.1 in
    omega arith

-- what has moved has moved later on too
pub moved_later : (a b c : FrontState) → HasMoved (view_of a) (view_of b) → Goes b c → HasMoved (view_of a) (view_of c)
moved_later a b c moved g = elim moved [
  | inl logged ↦ inl (omega (arith, logged, log_grown b c g))
  | inr jobs ↦ elim jobs [
    | inl handed ↦ inr (inl (omega (arith, handed, g.handed)))
    | inr gained ↦ inr (inr (omega (arith, gained, g.gained)))
  ]
]

-- and has moved since a time before
pub moved_since : (a b c : FrontState) → Goes a b → HasMoved (view_of b) (view_of c) → HasMoved (view_of a) (view_of c)
moved_since a b c g moved = elim moved [
  | inl logged ↦ inl (omega (arith, logged, log_grown a b g))
  | inr jobs ↦ elim jobs [
    | inl handed ↦ inr (inl (omega (arith, handed, g.handed)))
    | inr gained ↦ inr (inr (omega (arith, gained, g.gained)))
  ]
]

-- ---- where nothing changed
-- a front that is the same is still
still_same : (a b : FrontState) → IsSame a b → IsStill (view_of a) (view_of b)
still_same a b s = record { log = s.log; hands = ap (λ (j : JobsView). j.hands) s.jobs }

-- where nothing is known to rest in the rings of results, that stays so
unknown_same : (a b : FrontState) → IsSame a b → All IsUnknown a.jobs.hands.seat.ends → All IsUnknown b.jobs.hands.seat.ends
unknown_same a b s h = subst (λ (ends : Ends). All IsUnknown ends) (sym (ap (λ (j : JobsView). j.hands.seat.ends) s.jobs)) h

-- where no completion can be posted, that stays so
pub drained_same : (a b : FrontState) → IsSame a b → NoneCanBePosted (view_of a) → NoneCanBePosted (view_of b)
drained_same a b s h = subst NoneCanBePosted (sym (same_view a b s)) h

-- and was so before
pub drained_before : (a b : FrontState) → IsSame a b → NoneCanBePosted (view_of b) → NoneCanBePosted (view_of a)
drained_before a b s h = subst NoneCanBePosted (same_view a b s) h

-- the log read backwards stays the same
pub past_same : (a b : FrontState) → IsSame a b → past_of b ≡ past_of a
past_same a b s = ap reverse s.log

-- scanned queues stay so, by what a contract sees
abbrev AreScanned : FrontView → Type 0
AreScanned v =
    (q : ℕ) → q ≤ highest_qid → (queue : Queue) → open_sq (past_in v) q ≡ Some queue
    → ((window_at v.rules queue.region ≤ length (waiting (past_in v) queue.region)) × (waiting (past_in v) queue.region ≢ [])) ⊎ (known_in v queue.region ≡ [])

pub scanned_same : (a b : FrontState) → IsSame a b → AllScanned a → AllScanned b
scanned_same a b s h = subst AreScanned (sym (same_view a b s)) h

-- the next pick stays the same
pub pick_same : (a b : FrontState) → IsSame a b → next_lawful (view_of b) ≡ next_lawful (view_of a)
pick_same a b s = ap next_lawful (same_view a b s)

-- so do the places that it lacks
lacks_same : (a b : FrontState) → IsSame a b → (o : Option Pick) → IfSome o (LacksPlaces (rules_of a) (past_of a)) → IfSome o (LacksPlaces (rules_of b) (past_of b))
lacks_same a b s o h = rw (past_same a b s, rules-goes a b (Goes-same a b s)) h

-- ---- the jobs and the completions of a turn
-- by what was handed, gained and posted
pub done_by : (a h g b : FrontState) → Goes a h → Goes h g → Goes g b → h.jobs.hands.seat.ends ≡ a.jobs.hands.seat.ends → (handed gained posted : Bool)
    → (handed ≡ true → length a.jobs.hands.seat.handed < length h.jobs.hands.seat.handed) → (handed ≡ false → IsSame a h)
    → (gained ≡ true → gained_count h.jobs.hands < gained_count g.jobs.hands) → (gained ≡ false → IsSame h g × All IsUnknown h.jobs.hands.seat.ends)
    → (posted ≡ true → length g.log.items < length b.log.items) → (posted ≡ false → IsSame g b × NoneCanBePosted (view_of g))
    → HasDone (handed || gained || posted) a b
done_by a h g b ah hg gb ends true gained posted more_handed none_handed more_gained none_gained more_posted none_posted =
    moved_later a g b (moved_later a h g (inr (inl (more_handed refl))) hg) gb
done_by a h g b ah hg gb ends false true posted more_handed none_handed more_gained none_gained more_posted none_posted =
    moved_later a g b (moved_since a h g ah (inr (inr (more_gained refl)))) gb
done_by a h g b ah hg gb ends false false true more_handed none_handed more_gained none_gained more_posted none_posted =
    moved_since a h b ah (moved_since h g b hg (inl (more_posted refl)))
done_by a h g b ah hg gb ends false false false more_handed none_handed more_gained none_gained more_posted none_posted =
    let ag : IsSame a g = IsSame-trans a h g (none_handed refl) (none_gained refl).0 in
    record {
      same = IsSame-trans a g b ag (none_posted refl).0;
      none_gained = subst (λ (x : Ends). All IsUnknown x) ends (none_gained refl).1;
      drained = drained_before a g ag (none_posted refl).1;
    }

-- ---- what is done after the jobs and the completions
-- an idle front, by its pending deletion
idle_by : (b c : FrontState) → HasAdmin c → IsConsistent c → NoneCanBePosted (view_of c) → All IsUnknown c.jobs.hands.seat.ends → IsSame b c
    → (o : Option Deletion) → pending (past_of b) ≡ o → IsWaiting b o → IsIdleFront (view_of c)
idle_by b c admin kept drained none_gained bc None none waiting =
    idle_front c kept admin (ap pending (past_same b c bc) ∙ none) drained none_gained (scanned_same b c bc waiting.0) (pick_same b c bc ∙ waiting.1)
idle_by b c admin kept drained none_gained bc (Some d) is_pending waiting =
    deleting_front c d (ap pending (past_same b c bc) ∙ is_pending) drained none_gained
    (subst (λ (p : Past). HasUnposted p d.region) (sym (past_same b c bc)) waiting)

-- a stalled front
stalled_by : (b c : FrontState) → NoneCanBePosted (view_of c) → All IsUnknown c.jobs.hands.seat.ends → IsSame b c → NeedsPlaces b → IsStalledFront (view_of c)
stalled_by b c drained none_gained bc needs =
    stalled_front c drained none_gained (next_lawful (view_of b)) (pick_same b c bc) (lacks_same b c bc (next_lawful (view_of b)) needs.0) needs.1

module _ (a b c : FrontState) (admin : HasAdmin a) (kept : IsConsistent c) (ab : Goes a b) (bc : Goes b c) (picks : picks_in b.log.items ≡ picks_in a.log.items) where
  -- where nothing was done before
  quiet_means : IsQuiet a b → (step : Step) → Proceeds step b c → StepMeans step (view_of a) (view_of c)
  quiet_means quiet Picked it = it ∙ ap (λ (n : ℕ). n + 1) picks
  quiet_means quiet Moved it = (moved_since a b c ab (inl it.0), it.1 ∙ picks)
  quiet_means quiet Idle it =
      let ac : IsSame a c = IsSame-trans a b c quiet.same it.0 in (
        idle_by b c (admin-goes a c (Goes-same a c ac) admin) kept (drained_same a c ac quiet.drained) (unknown_same a c ac quiet.none_gained) it.0 (pending (past_of b)) refl it.1,
        still_same a c ac,
      )
  quiet_means quiet Stalled it =
      let ac : IsSame a c = IsSame-trans a b c quiet.same it.0 in (
        stalled_by b c (drained_same a c ac quiet.drained) (unknown_same a c ac quiet.none_gained) it.0 it.1,
        still_same a c ac,
      )

  -- where something was
  moved_means : HasMoved (view_of a) (view_of b) → (step : Step) → Proceeds step b c → StepMeans (told_after true step) (view_of a) (view_of c)
  moved_means moved Picked it = it ∙ ap (λ (n : ℕ). n + 1) picks
  moved_means moved Moved it = (moved_later a b c moved bc, it.1 ∙ picks)
  moved_means moved Idle it = (moved_later a b c moved bc, ap picks_in it.0.log ∙ picks)
  moved_means moved Stalled it = (moved_later a b c moved bc, ap picks_in it.0.log ∙ picks)

  -- what a turn answers
  turn_by : (done : Bool) → HasDone done a b → (step : Step) → Proceeds step b c → StepMeans (told_after done step) (view_of a) (view_of c)
  turn_by true moved step it = moved_means moved step it
  turn_by false quiet step it = quiet_means quiet step it

  -- the same of its answer
  pub turn_means : (done : Bool) → HasDone done a b → (step : Step) → Proceeds step b c → (answer : Step) → answer ≡ told_after done step
      → StepMeans answer (view_of a) (view_of c)
  turn_means done has step it answer is = subst (λ (s : Step). StepMeans s (view_of a) (view_of c)) (sym is) (turn_by done has step it)

-- ---- a deletion
-- by whether it was finished
closed_by : (a b : FrontState) (d : Deletion) → pending (past_of a) ≡ Some d → picks_in b.log.items ≡ picks_in a.log.items → (finished : Bool)
    → (finished ≡ true → length b.log.items ≡ length a.log.items + 1) → (finished ≡ false → IsSame a b × HasUnposted (past_of a) d.region)
    → Proceeds (told_after finished Idle) a b
closed_by a b d is_pending picks true ended waits = (omega (arith, ended refl), picks)
closed_by a b d is_pending picks false ended waits =
    ((waits refl).0, subst (λ (o : Option Deletion). IsWaiting a o) (sym is_pending) (waits refl).1)

-- the same of the answer
pub closed_means : (a b : FrontState) (d : Deletion) → pending (past_of a) ≡ Some d → picks_in b.log.items ≡ picks_in a.log.items → (finished : Bool)
    → (finished ≡ true → length b.log.items ≡ length a.log.items + 1) → (finished ≡ false → IsSame a b × HasUnposted (past_of a) d.region)
    → (answer : Step) → answer ≡ told_after finished Idle → Proceeds answer a b
closed_means a b d is_pending picks finished ended waits answer is =
    subst (λ (s : Step). Proceeds s a b) (sym is) (closed_by a b d is_pending picks finished ended waits)

-- ---- the scan and the pick
-- what `pick` says of a state that it left as it was, where it made no pick
abbrev pub IsIdlePick : FrontState → FrontState → Type 0
IsIdlePick b c = IsSame b c × (next_lawful (view_of b) ≡ None)

abbrev pub IsStalledPick : FrontState → FrontState → Type 0
IsStalledPick b c = IsSame b c × NeedsPlaces b

module _ (a b c : FrontState) (bc : Goes b c) (none : pending (past_of a) ≡ None) (picks : picks_in b.log.items ≡ picks_in a.log.items) where
  -- the next pick of a front that is the same needs as many places
  abbrev NeedsMore : FrontView → Type 0
  NeedsMore v = IfSome (next_lawful v) (LacksPlaces v.rules (past_in v)) × IsSome (next_lawful v)

  needs_before : IsSame a b → NeedsPlaces b → NeedsPlaces a
  needs_before ab needs = subst NeedsMore (same_view a b ab) needs

  -- by what was fetched
  served_by : (fetched : Bool) → (fetched ≡ true → length a.log.items < length b.log.items) → (fetched ≡ false → IsSame a b × AllScanned a)
      → (picked : Step) → (picked ≡ Picked → picks_in c.log.items ≡ picks_in b.log.items + 1) → (picked ≡ Moved → ⊥)
      → (picked ≡ Idle → IsIdlePick b c) → (picked ≡ Stalled → IsStalledPick b c) → Proceeds (told_after fetched picked) a c
  served_by fetched more still Moved one never idle stalled = absurd (never refl)
  served_by true more still Picked one never idle stalled = one refl ∙ ap (λ (n : ℕ). n + 1) picks
  served_by true more still Idle one never idle stalled = (omega (arith, more refl, log_grown b c bc), ap picks_in (idle refl).0.log ∙ picks)
  served_by true more still Stalled one never idle stalled = (omega (arith, more refl, log_grown b c bc), ap picks_in (stalled refl).0.log ∙ picks)
  served_by false more still Picked one never idle stalled = one refl ∙ ap (λ (n : ℕ). n + 1) picks
  served_by false more still Idle one never idle stalled =
      let ab : IsSame a b = (still refl).0 in
      (IsSame-trans a b c ab (idle refl).0, subst (λ (o : Option Deletion). IsWaiting a o) (sym none) ((still refl).1, sym (pick_same a b ab) ∙ (idle refl).1))
  served_by false more still Stalled one never idle stalled =
      let ab : IsSame a b = (still refl).0 in (IsSame-trans a b c ab (stalled refl).0, needs_before ab (stalled refl).1)

  -- the same of the answer
  pub served_means : (fetched : Bool) → (fetched ≡ true → length a.log.items < length b.log.items) → (fetched ≡ false → IsSame a b × AllScanned a)
      → (picked : Step) → (picked ≡ Picked → picks_in c.log.items ≡ picks_in b.log.items + 1) → (picked ≡ Moved → ⊥)
      → (picked ≡ Idle → IsIdlePick b c) → (picked ≡ Stalled → IsStalledPick b c) → (answer : Step) → answer ≡ told_after fetched picked → Proceeds answer a c
  served_means fetched more still picked one never idle stalled answer is =
      subst (λ (s : Step). Proceeds s a c) (sym is) (served_by fetched more still picked one never idle stalled)

-- ---- results that are weighed
-- over jobs that are handed, results that are gained and completions that are posted
pub caught_up_balanced : (a h g p : FrontState) → Goes a h → Goes h g → Balanced a h → Balanced h g → p.jobs ≡ g.jobs → Balanced a p
caught_up_balanced a h g p ah hg handed gained same =
    balanced_trans a h p ah handed (balanced_trans h g p hg gained (balanced_still g p same))

-- over a scan and a pick
pub picked_balanced : (a b c : FrontState) → Goes a b → b.jobs ≡ a.jobs → c.jobs.hands.seat ≡ b.jobs.hands.seat → c.jobs.hands.running ≡ b.jobs.hands.running → Balanced a c
picked_balanced a b c goes same seat running = balanced_trans a b c goes (balanced_still a b same) (balanced_same b c seat running)

-- ---- a result of no job
-- the answer with its ticket
pub stray_means : (ticket : ℕ) (a h g : FrontState) → Goes a h → Balanced a h → h.log.items ≡ a.log.items → g.log.items ≡ h.log.items → (e : FrontError) → e ≡ Stray ticket
    → GainedStray ticket (view_of h) (view_of g) → ErrorMeans e (view_of a) (view_of g)
stray_means ticket a h g goes balanced log log' e is s =
    subst (λ (x : FrontError). ErrorMeans x (view_of a) (view_of g)) (sym is) (stray_since ticket a h g goes balanced s, ap picks_in log' ∙ ap picks_in log)

-- ---- a pick that failed
-- the log is full, or too full for an admin pick
pub pick_error_means : (a c d : FrontState) (e : FrontError) → pending (past_of c) ≡ None → Balanced a d → picks_in d.log.items ≡ picks_in a.log.items
    → (e ≡ LogFull → (d.config.max_events < length d.log.items + 1) ⊎ (IsSame c d × LacksAdminEvents c))
    → ((e ≡ LogFull) ⊎ (e ≡ NoMemory)) → ErrorMeans e (view_of a) (view_of d)
pick_error_means a c d NoMemory none balanced picks full one = (picks, balanced)
pick_error_means a c d LogFull none balanced picks full one = elim (full refl) [
  | inl none_free ↦ (inl none_free, picks, balanced)
  | inr few ↦
      let same : IsSame c d = few.0 in
      let free : d.config.max_events < length d.log.items + admin_events = rw (same.config, same.log) few.1.0 in (
        admin_log_full d (ap pending (past_same c d same) ∙ none) free (next_lawful (view_of c)) (pick_same c d same)
            (rw (past_same c d same, rules-goes c d (Goes-same c d same)) few.1.1) few.1.2,
        picks,
        balanced,
      )
]
pick_error_means a c d (Stray ticket) none balanced picks full one = absurd (elim one [ inl e ↦ cc | inr e ↦ cc ])

-- ---- errors
-- of a step that had no room in the log, or no memory for it
pub log_error_means : (a b : FrontState) (e : FrontError) → Balanced a b → picks_in b.log.items ≡ picks_in a.log.items
    → (e ≡ LogFull → b.config.max_events < length b.log.items + 1) → ((e ≡ LogFull) ⊎ (e ≡ NoMemory)) → ErrorMeans e (view_of a) (view_of b)
log_error_means a b NoMemory balanced picks full one = (picks, balanced)
log_error_means a b LogFull balanced picks full one = (inl (full refl), picks, balanced)
log_error_means a b (Stray ticket) balanced picks full one = absurd (elim one [ inl e ↦ cc | inr e ↦ cc ])

-- the same since a time before
pub error_since : (a b c : FrontState) (e : FrontError) → Goes a b → Balanced a b → picks_in b.log.items ≡ picks_in a.log.items → ErrorMeans e (view_of b) (view_of c)
    → ErrorMeans e (view_of a) (view_of c)
error_since a b c NoMemory goes balanced picks it = (it.0 ∙ picks, balanced_trans a b c goes balanced it.1)
error_since a b c LogFull goes balanced picks it = (it.0, it.1 ∙ picks, balanced_trans a b c goes balanced it.2)
error_since a b c (Stray ticket) goes balanced picks it = (stray_since ticket a b c goes balanced it.0, it.1 ∙ picks)
