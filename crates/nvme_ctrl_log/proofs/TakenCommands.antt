-- The admin commands that were picked: each was applied, so that none names an address that no applied entry does.
use Rattle.std.proofs.Common.{◌≡◌, ℕ, zero, suc, ◌<◌, ◌==◌, nat_lt, Bool, true, false, not, if◌then◌else◌, List, [], ◌∷◌, ◌++◌, length, drop, filter, Option, Some, None, refl, sym, ap, ◌∙◌, subst, arith, ◌⊎◌, inl, inr}
use Rattle.std.specs.Prelude.{slice_get, option_and_then}
use Rattle.std.specs.List.{list_any}
use Rattle.std.proofs.lemmas.Bool.{cases_eq, cases_lt, eq-eqb, ne_eqb, ltb-true, or_parts, false_from_ne_true}
use Rattle.std.proofs.lemmas.Option.{none-some, same_Some}
use Rattle.nvme_entry.specs.AdminCommand.{admin_command_of}
use Rattle.nvme_entry.specs.declared.submission.Sqe.{Sqe}
use Rattle.nvme_arbiter.specs.Lawful.{IsLimitedRun}
use Rattle.nvme_arbiter.specs.declared.pick.Pick.{Pick}
use Rattle.nvme_arbiter.specs.declared.pick.Seen.{Seen}
use Rattle.nvme_log.specs.declared.event.Event.{Event}
use Rattle.nvme_log.specs.declared.event.Event.TheVariants.{Fetch, SetArbitration}
use Rattle.nvme_log.specs.declared.event.Event.TheVariants as event
use Rattle.nvme_log.specs.Rules.{FrontRules, Past, Each, upto}
use Rattle.nvme_log.specs.Queues.{Queue, admin_queue, open_sq, has_region}
use Rattle.nvme_log.specs.Places.{fetched, picked, waiting, WasAborted, WasPicked, Waits, fate_of, is_waiting, is_aborted, unaborted_below, entry_at}
use Rattle.nvme_log.specs.Histories.{arbitration_of, table_history, admin_entry, applied}
use Rattle.nvme_log.specs.Effects.{EffectsAtOnce}
use Rattle.nvme_log.specs.Account.{ServedWhileOpen}
use Rattle.nvme_log.proofs.AbortAnswers.{entry-stays}
use Rattle.nvme_log.proofs.Fates.{length-upto}
use Rattle.nvme_log.proofs.LogLengths.{TakesWaiting, TakesSome}
use Rattle.nvme_log.proofs.Turns.{in-waits, admin-stays, region-io, admin-unaborted}
use Rattle.nvme_log.proofs.Members.{IsIn}
use Rattle.nvme_log.proofs.Waiting.{left, unaborted, waiting_is-drop, picked-pick, picked-pick_other}
use Rattle.nvme_ctrl_log.specs.Making.{command_names, step_names}
use Rattle.nvme_log.proofs.AdminPicks.{one_of_admin}
use Rattle.nvme_ctrl_log.proofs.FurtherHistories.{IsUnnamed, unnamed-before}

-- ---- lists
keep_all : (xs : List ℕ) → filter (λ (i : ℕ). true) xs ≡ xs
keep_all [] = refl
keep_all (x ∷ xs) = ap (λ (ys : List ℕ). x ∷ ys) (keep_all xs)

get-drop : {T : Type 0} (p : ℕ) (xs : List T) → slice_get (drop p xs) 0 ≡ slice_get xs p
get-drop zero xs = refl
get-drop (suc p) [] = refl
get-drop (suc p) (x ∷ xs) = get-drop p xs

get-push : {T : Type 0} (xs : List T) (y : T) (p : ℕ) (x : T) → slice_get (xs ++ y ∷ []) p ≡ Some x → (slice_get xs p ≡ Some x) ⊎ ((p ≡ length xs) × (y ≡ x))
get-push [] y zero x h = inr (refl, same_Some y x h)
get-push [] y (suc p) x h = absurd (none-some x h)
get-push (z ∷ xs) y zero x h = inl h
get-push (z ∷ xs) y (suc p) x h = elim (get-push xs y p x h) [
  | inl e ↦ inl e
  | inr e ↦ inr (ap (λ (k : ℕ). suc k) e.0 ∙ refl, e.1)
]

get-upto : (n p j : ℕ) → slice_get (upto n) p ≡ Some j → p ≡ j
get-upto zero p j h = absurd (none-some j h)
get-upto (suc n) p j h = elim (get-push (upto n) n p j h) [
  | inl e ↦ get-upto n p j e
  | inr e ↦ e.0 ∙ length-upto n ∙ e.1
]

-- what stands at a place of a list
at-below : (xs : List Sqe) (k : ℕ) → k < length xs → (entry : Sqe) × (slice_get xs k ≡ Some entry)
at-below [] k lt = absurd (omega (arith, lt))
at-below (x ∷ xs) zero lt = (x, refl)
at-below (x ∷ xs) (suc k) lt = at-below xs k (omega (arith, lt))

-- a place that doesn't wait was picked, where none is aborted
was_picked : (a : Bool) (u p k : ℕ) → a ≡ false → u ≡ k → is_waiting (if a then WasAborted else (if nat_lt u p then WasPicked else Waits)) ≡ false → k < p
was_picked a u p k none same w = by (nat_lt u p) refl (subst (λ (b : Bool). is_waiting (if b then WasAborted else (if nat_lt u p then WasPicked else Waits)) ≡ false) none w) where
  by : (b : Bool) → nat_lt u p ≡ b → is_waiting (if b then WasPicked else Waits) ≡ false → k < p
  by true e h = let lt : u < p = ltb-true u p e in omega (arith, lt, same)
  by false e h = cc h

-- what an accounted log says of each event, and of its picks
pub record IsSound (rules : FrontRules) (past : Past) : Type 0 where
  pub effects : Each (EffectsAtOnce rules) past
  pub served : Each (ServedWhileOpen rules) past
  pub takes : Each TakesSome past
  pub lawful : IsLimitedRun rules.mechanism rules.start.settings (arbitration_of past)

-- the picks before an event are lawful too
pub lawful-before : (rules : FrontRules) (e : Event) (past : Past) → IsLimitedRun rules.mechanism rules.start.settings (arbitration_of (e ∷ past))
    → IsLimitedRun rules.mechanism rules.start.settings (arbitration_of past)
lawful-before rules (event.Pick seen pick) past l = l.2
lawful-before rules (SetArbitration settings) past l = l
lawful-before rules e past l = l

-- a log is sound before an event
pub sound-before : (rules : FrontRules) (e : Event) (past : Past) → IsSound rules (e ∷ past) → IsSound rules past
sound-before rules e past s = record { effects = s.effects.1; served = s.served.1; takes = s.takes.1; lawful = lawful-before rules e past s.lawful }

module _ (rules : FrontRules) where
  -- ---- the places of the admin queue
  admin-waiting : (past : Past) → Each (EffectsAtOnce rules) past → waiting past 0 ≡ drop (picked past 0) (upto (length (fetched past 0)))
  admin-waiting past h =
      let none : (λ (i : ℕ). is_aborted past 0 i) ≡ (λ (i : ℕ). false) = λ t i. false_from_ne_true (is_aborted past 0 i) (λ a. admin-unaborted rules past h i a) t in
      let all : unaborted past 0 ≡ upto (length (fetched past 0)) = ap (λ (f : ℕ → Bool). left f (length (fetched past 0))) none ∙ keep_all (upto (length (fetched past 0))) in
      waiting_is-drop past 0 ∙ ap (drop (picked past 0)) all

  -- the oldest that waits is the one behind those that were picked
  oldest-is : (past : Past) → Each (EffectsAtOnce rules) past → (j : ℕ) → slice_get (waiting past 0) 0 ≡ Some j → picked past 0 ≡ j
  oldest-is past h j is =
      get-upto (length (fetched past 0)) (picked past 0) j
      (sym (get-drop (picked past 0) (upto (length (fetched past 0)))) ∙ ap (λ (xs : List ℕ). slice_get xs 0) (sym (admin-waiting past h)) ∙ is)

  -- no other queue has the region
  own-region : (past : Past) (q : ℕ) → Each (EffectsAtOnce rules) past → q ≡ 0 → has_region 0 (open_sq past q) ≡ true
  own-region past q h z = ap (λ (k : ℕ). has_region 0 (open_sq past k)) z ∙ ap (has_region 0) (admin-stays rules past h)

  other-region : (past : Past) (q : ℕ) → Each (EffectsAtOnce rules) past → (q ≡ 0 → ⊥) → has_region 0 (open_sq past q) ≡ false
  other-region past q h io = by (open_sq past q) refl where
    by : (o : Option Queue) → open_sq past q ≡ o → has_region 0 o ≡ false
    by None is = refl
    by (Some queue) is = ne_eqb queue.region 0 (region-io rules past h q queue is io)

  -- a place that doesn't wait was picked
  pub admin_picked : (past : Past) → Each (EffectsAtOnce rules) past → (i : ℕ) → is_waiting (fate_of past 0 i) ≡ false → i < picked past 0
  admin_picked past h i done =
      let alone : (k : ℕ) → is_aborted past 0 k ≡ false = λ k. false_from_ne_true (is_aborted past 0 k) (λ a. admin-unaborted rules past h k a) in
      let none : (λ (k : ℕ). not (is_aborted past 0 k)) ≡ (λ (k : ℕ). true) = λ t k. not (alone k t) in
      let below : unaborted_below past 0 i ≡ i = ap (λ (f : ℕ → Bool). length (filter f (upto i))) none ∙ ap length (keep_all (upto i)) ∙ length-upto i in
      was_picked (is_aborted past 0 i) (unaborted_below past 0 i) (picked past 0) i (alone i) below done

  -- ---- what a picked place has
  -- its entry doesn't name an address
  pub record HasUnnamed (a : ℕ) (past : Past) (k : ℕ) : Type 0 where
    pub entry : Sqe
    pub is_there : entry_at past 0 k ≡ Some entry
    pub other : command_names a (admin_command_of entry) ≡ false

  -- what the pick of a command takes
  record IsTakenNext (a : ℕ) (past : Past) : Type 0 where
    place : ℕ
    next : picked past 0 ≡ place
    has : HasUnnamed a past place

  takes-next : (a : ℕ) (past : Past) (seen : List Seen) (pick : Pick) → IsSound rules (event.Pick seen pick ∷ past) → pick.qid ≡ 0 → IsUnnamed rules a (event.Pick seen pick ∷ past) → IsTakenNext a past
  takes-next a past seen pick s admin h = by s.takes.0 where
    by : TakesWaiting past pick → IsTakenNext a past
    by t =
        let here : Some t.queue ≡ Some admin_queue = sym t.is_open ∙ ap (open_sq past) admin ∙ admin-stays rules past s.effects.1 in
        let region : t.queue.region ≡ 0 = ap (λ (x : Queue). x.region) (same_Some t.queue admin_queue here) in
        let waits : waiting past 0 ≡ t.first ∷ t.others = ap (waiting past) (sym region) ∙ t.wait in
        let oldest : slice_get (waiting past 0) 0 ≡ Some t.first = ap (λ (xs : List ℕ). slice_get xs 0) waits in
        let next = oldest-is past s.effects.1 t.first oldest in
        let there = in-waits past 0 t.first (subst (IsIn t.first) (sym waits) (inl refl)) in
        let at = at-below (fetched past 0) t.first there.0 in
        let entry_is : admin_entry past ≡ Some at.0 = ap (option_and_then (entry_at past 0)) oldest ∙ at.1 in
        let named : list_any (step_names a) (applied (Some at.0) ++ table_history rules past) ≡ false =
        sym (λ j. list_any (step_names a) (if eq-eqb pick.qid 0 admin j then applied (entry_is j) ++ table_history rules past else table_history rules past)) ∙ h in
        let parts = or_parts (command_names a (admin_command_of at.0)) (list_any (step_names a) (table_history rules past)) named in
        record { place = t.first; next = next; has = record { entry = at.0; is_there = at.1; other = parts.0 } }

  -- a fetch leaves the entries that are there
  unnamed-fetch : (a : ℕ) (past : Past) (region index : ℕ) (entry : Sqe) (k : ℕ) → HasUnnamed a past k → HasUnnamed a (Fetch region index entry ∷ past) k
  unnamed-fetch a past region index entry k it = record { entry = it.entry; is_there = by (region == 0); other = it.other } where
    by : (b : Bool) → slice_get (if b then fetched past 0 ++ entry ∷ [] else fetched past 0) k ≡ Some it.entry
    by true = entry-stays (fetched past 0) (entry ∷ []) k it.entry it.is_there
    by false = it.is_there

  pub picked-unnamed : (a : ℕ) (past : Past) → IsSound rules past → IsUnnamed rules a past → (k : ℕ) → k < picked past 0 → HasUnnamed a past k
  picked-unnamed a [] s h k lt = absurd (omega (arith, lt))
  picked-unnamed a (Fetch region index entry ∷ past) s h k lt =
      unnamed-fetch a past region index entry k (picked-unnamed a past (sound-before rules (Fetch region index entry) past s) (unnamed-before rules a (Fetch region index entry) past h) k lt)
  picked-unnamed a (event.Pick seen pick ∷ past) s h k lt =
      let earlier = sound-before rules (event.Pick seen pick) past s in
      let unnamed = unnamed-before rules a (event.Pick seen pick) past h in
      elim (cases_eq pick.qid 0) [
        | inr io ↦
            let same = picked-pick_other past seen pick 0 (other-region past pick.qid s.effects.1 io) in
            let it = picked-unnamed a past earlier unnamed k (omega (arith, lt, same)) in
            record { entry = it.entry; is_there = it.is_there; other = it.other }
        | inl admin ↦
            let one = one_of_admin rules.mechanism rules.start.settings (arbitration_of past) seen pick s.lawful.0 s.lawful.1 admin in
            let more = picked-pick past seen pick 0 (own-region past pick.qid s.effects.1 admin) in
            elim (cases_lt k (picked past 0)) [
              | inl below ↦
                  let it = picked-unnamed a past earlier unnamed k below in
                  record { entry = it.entry; is_there = it.is_there; other = it.other }
              | inr from ↦
                  let next = takes-next a past seen pick s admin h in
                  let same : next.place ≡ k = omega (arith, lt, more, one, from, next.next) in
                  let it = subst (HasUnnamed a past) same next.has in
                  record { entry = it.entry; is_there = it.is_there; other = it.other }
            ]
      ]
  picked-unnamed a (e ∷ past) s h k lt =
      let it = picked-unnamed a past (sound-before rules e past s) (unnamed-before rules a e past h) k lt in
      record { entry = it.entry; is_there = it.is_there; other = it.other }
