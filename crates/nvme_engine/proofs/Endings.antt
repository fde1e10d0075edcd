-- The commands that the next admin command ends.
use Rattle.std.proofs.Common.{◌≡◌, ℕ, zero, suc, ◌+◌, ◌<◌, ◌≤◌, ◌==◌, Bool, true, false, if◌then◌else◌, List, [], ◌∷◌, ◌++◌, length, map, filter, take, Option, Some, None, refl, sym, ap, ◌∙◌, subst, arith}
use Rattle.std.specs.Prelude.{◌↔◌, slice_get, option_map, Result, Ok, Err, IsOk, OnOk}
use Rattle.std.specs.List.{All}
use Rattle.std.proofs.Math.Seq.{take-length}
use Rattle.std.proofs.lemmas.List.{take_more, length-map, length-take-le}
use Rattle.std.proofs.lemmas.List.Elements.{filter-append}
use Rattle.std.proofs.lemmas.Option.{same_Some, slice_get_within, get_or_from_slice_get}
use Rattle.nvme_entry.specs.declared.admin.AdminCommand.{AdminCommand}
use Rattle.nvme_entry.specs.declared.admin.AdminCommand.TheVariants as command
use Rattle.nvme_entry.specs.declared.submission.Sqe.{Sqe}
use Rattle.nvme_arbiter.specs.Limits.{highest_count}
use Rattle.nvme_log.specs.declared.event.Event.TheVariants.{Abort}
use Rattle.nvme_log.specs.Rules.{FrontRules, Past}
use Rattle.nvme_log.specs.Queues.{Queue, admin_queue, open_sq}
use Rattle.nvme_log.specs.Places.{fetched, waiting, entry_at}
use Rattle.nvme_log.specs.Effects.{has_cid, named, abort_in, abort_of}
use Rattle.nvme_log.specs.declared.place.Place.{Place}
use Rattle.nvme_log.proofs.Waiting.{waiting-below}
use Rattle.nvme_ctrl_log.specs.Notes.{Notes, logged}
use Rattle.nvme_ctrl_content.specs.Content.{Attachment, Candidate}
use Rattle.nvme_ctrl_log.specs.Waits.{WaitsAt}
use Rattle.nvme_ctrl.proofs.CarryAbort.{target_is}
use Rattle.nvme_ctrl_content.proofs.OpenQueues.{admin_is_open}
use Rattle.nvme_engine.specs.Standing.{StandsBut}
use Rattle.nvme_engine.specs.Making.{IsEnding}
use Rattle.nvme_engine.specs.declared.admin.Ending.TheVariants.{Nothing}
use Rattle.nvme_engine.specs.declared.engine.Engine.{Engine}

-- ---- lists
-- what is in a list at a place is as each of it
all-at : {X : Type 0} (P : X → Type 0) (xs : List X) (n : ℕ) (x : X) → All P xs → slice_get xs n ≡ Some x → P x
all-at P xs n x all at = subst P (get_or_from_slice_get xs n x x at) (all n x (slice_get_within xs n x at))

-- one more is taken
pub take_next : {X : Type 0} (xs : List X) (n : ℕ) (x : X) → slice_get xs n ≡ Some x → take (n + 1) xs ≡ take n xs ++ x ∷ []
take_next xs n x at = take_more xs n x (slice_get_within xs n x at) ∙ ap (λ (y : _). take n xs ++ y ∷ []) (get_or_from_slice_get xs n x x at)

-- one more is pushed, where there is room for all
pub pushed : {T E : Type 0} (n x : ℕ) (all old new : List ℕ) (r : Result T E) → old ≡ take n all → slice_get all n ≡ Some x → length all ≤ 256 → (IsOk r ↔ (length old < 256))
    → OnOk r (new ≡ old ++ x ∷ []) → new ≡ take (n + 1) all
pushed n x all old new (Ok y) was at few variant ok = ok ∙ ap (λ (ys : List ℕ). ys ++ x ∷ []) was ∙ sym (take_next all n x at)
pushed n x all old new (Err e) was at few variant ok =
    let within = slice_get_within all n x at in
    let size = ap (λ (ys : List ℕ). length ys) was ∙ length-take-le n all (omega (arith, within)) in
    let is_ok = variant.1 (omega (arith, few, within, size)) in
    absurd (cc is_ok)

-- all of a list are taken
pub take_whole : {X : Type 0} (xs : List X) (n : ℕ) → n ≡ length xs → take n xs ≡ xs
take_whole xs n whole = ap (λ (m : ℕ). take m xs) whole ∙ take-length xs

-- none of the first passes
pub none_next : {X : Type 0} (p : X → Bool) (xs : List X) (n : ℕ) (x : X) → slice_get xs n ≡ Some x → p x ≡ false → filter p (take n xs) ≡ [] → filter p (take (n + 1) xs) ≡ []
none_next p xs n x at not_it none =
    ap (filter p) (take_next xs n x at) ∙ filter-append p (take n xs) (x ∷ [])
    ∙ ap (λ (ys : List _). ys ++ filter p (x ∷ [])) none ∙ ap (λ (b : Bool). if b then x ∷ [] else []) not_it

-- so the next that does is the first
pub first_passes : {X : Type 0} (p : X → Bool) (xs : List X) (n : ℕ) (x : X) → slice_get xs n ≡ Some x → p x ≡ true → filter p (take n xs) ≡ [] → slice_get (filter p xs) 0 ≡ Some x
first_passes p [] n x at it none = absurd (omega (arith, slice_get_within [] n x at))
first_passes p (y ∷ ys) zero x at it none =
    let same : y ≡ x = same_Some y x at in
    ap (λ (b : Bool). slice_get (if b then y ∷ filter p ys else filter p ys) 0) (ap p same ∙ it) ∙ at
first_passes p (y ∷ ys) (suc n) x at it none = by (p y) none (λ none. first_passes p ys n x at it none) where
  by : (b : Bool) → (if b then y ∷ filter p (take n ys) else filter p (take n ys)) ≡ [] → (filter p (take n ys) ≡ [] → slice_get (filter p ys) 0 ≡ Some x)
      → slice_get (if b then y ∷ filter p ys else filter p ys) 0 ≡ Some x
  by true h later = absurd (cc h)
  by false h later = later h

-- the first of a list, made into an event
first_made : (r : ℕ) (xs : List ℕ) (i : ℕ) → slice_get xs 0 ≡ Some i → Abort r i ∷ [] ≡ map (λ (j : ℕ). Abort r j) (take 1 xs)
first_made r [] i is = absurd (cc is)
first_made r (x ∷ xs) i is = ap (λ (j : ℕ). Abort r j ∷ []) (sym (same_Some x i is))

none_made : (r : ℕ) (xs : List ℕ) → slice_get xs 0 ≡ None → [] ≡ map (λ (j : ℕ). Abort r j) (take 1 xs)
none_made r [] is = refl
none_made r (x ∷ xs) is = absurd (cc is)

-- ---- the commands that wait
module _ (rules : FrontRules) (late : Bool) (notes : Notes) (rest : List Place) (e : Engine) (s : StandsBut rules late notes rest e) where
  abbrev past : Past
  past = logged notes

  -- no more of a region wait than its window holds
  pub few_wait : (r : ℕ) → length (waiting past r) ≤ highest_count
  few_wait r =
      let h = s.stands.holds.regions r in
      let same = ap (λ (is : List ℕ). length is) h.waiting_is ∙ length-map (s.stands.content.sq r).window (λ (c : Candidate). c.index) in
      let few = h.few_waiting in
      omega (arith, same, few)

  module _ (qid : ℕ) (queue : Queue) (is_open : open_sq past qid ≡ Some queue) (n : ℕ) (entry : Sqe) (cookie : ℕ) (w : WaitsAt notes qid n entry cookie) where
    same_queue : w.queue ≡ queue
    same_queue = same_Some w.queue queue (sym w.is_open ∙ is_open)

    same_index : w.index ≡ cookie
    same_index =
        let below = all-at (λ (i : ℕ). i < length (fetched past w.queue.region)) (waiting past w.queue.region) n w.index (waiting-below past w.queue.region) w.at in
        same_Some w.index cookie (sym (s.cookies w.queue.region w.index below) ∙ w.cookie_is)

    -- what is kept with the command that waits as the nth is its index
    pub index_at : slice_get (waiting past queue.region) n ≡ Some cookie
    index_at = ap (λ (q : Queue). slice_get (waiting past q.region) n) (sym same_queue) ∙ w.at ∙ ap (λ (i : ℕ). Some i) same_index

    pub entry_is : entry_at past queue.region cookie ≡ Some entry
    entry_is = (λ t. entry_at past ((sym same_queue) t).region ((sym same_index) t)) ∙ w.entry_is

    pub has_its_cid : (cid : ℕ) → has_cid cid (entry_at past queue.region cookie) ≡ (entry.cid == cid)
    has_its_cid cid = ap (has_cid cid) entry_is

  -- the admin queue is open where one of its commands waits
  pub admin_opened : (index : ℕ) → slice_get (waiting past 0) 0 ≡ Some index → open_sq past 0 ≡ Some admin_queue
  admin_opened index oldest =
      let holds = s.stands.holds in
      let got = all-at (λ (i : ℕ). i < length (fetched past 0)) (waiting past 0) 0 index (waiting-below past 0) oldest in
      admin_is_open s.their s.their_late past s.stands.content holds (there got) where
        there : index < length (fetched past 0) → 0 < s.stands.content.nsq
        there got = by (s.stands.content.sq 0).queue refl where
          by : (o : Option Attachment) → (s.stands.content.sq 0).queue ≡ o → 0 < s.stands.content.nsq
          by None is =
              let nothing = (s.stands.holds.queues.unopened 0 is).nothing_got in
              let all = ap (λ (xs : List Sqe). length xs) ((s.stands.holds.regions 0).fetched_is ∙ nothing) in
              absurd (omega (arith, got, all))
          by (Some a) is = s.stands.holds.queues.sq_there 0 a is

  -- its oldest command is the first that waits
  pub oldest_entry : (index : ℕ) (entry other : Sqe) (cookie : ℕ) → slice_get (waiting past 0) 0 ≡ Some index → entry_at past 0 index ≡ Some entry → WaitsAt notes 0 0 other cookie → other ≡ entry
  oldest_entry index entry other cookie oldest is w =
      let opened = admin_opened index oldest in
      let same : cookie ≡ index = same_Some cookie index (sym (index_at 0 admin_queue opened 0 other cookie w) ∙ oldest) in
      same_Some other entry (sym (entry_is 0 admin_queue opened 0 other cookie w) ∙ ap (entry_at past 0) same ∙ is)

  pub some_waits : (index : ℕ) → slice_get (waiting past 0) 0 ≡ Some index → length (waiting past 0) ≤ 0 → ⊥
  some_waits index oldest none = let some = slice_get_within (waiting past 0) 0 index oldest in omega (arith, none, some)

-- ---- what an Abort ends
module _ (now : Past) (sqid cid : ℕ) where
  pub admin_aborts_none : sqid ≡ 0 → [] ≡ abort_of now sqid cid
  admin_aborts_none admin = ap (λ (q : ℕ). abort_of now q cid) (sym admin)

  module _ (io : sqid ≡ 0 → ⊥) where
    aborts_in : (o : Option Queue) → open_sq now sqid ≡ o → abort_of now sqid cid ≡ abort_in now cid o
    aborts_in o is = ap (abort_in now cid) (target_is now sqid io ∙ is)

    pub unopened_aborts_none : open_sq now sqid ≡ None → [] ≡ abort_of now sqid cid
    unopened_aborts_none is = sym (aborts_in None is)

    pub unnamed_aborts_none : (queue : Queue) → open_sq now sqid ≡ Some queue → slice_get (named now queue.region cid) 0 ≡ None → [] ≡ abort_of now sqid cid
    unnamed_aborts_none queue is none = none_made queue.region (named now queue.region cid) none ∙ sym (aborts_in (Some queue) is)

    pub aborts_first : (queue : Queue) (i : ℕ) → open_sq now sqid ≡ Some queue → slice_get (named now queue.region cid) 0 ≡ Some i → Abort queue.region i ∷ [] ≡ abort_of now sqid cid
    aborts_first queue i is first = first_made queue.region (named now queue.region cid) i first ∙ sym (aborts_in (Some queue) is)

    -- so by the region that is told of the queue
    pub untold_aborts_none : None ≡ option_map (λ (q : Queue). q.region) (open_sq now sqid) → [] ≡ abort_of now sqid cid
    untold_aborts_none told = by (open_sq now sqid) refl told where
      by : (o : Option Queue) → open_sq now sqid ≡ o → None ≡ option_map (λ (q : Queue). q.region) o → [] ≡ abort_of now sqid cid
      by None is told = unopened_aborts_none is
      by (Some queue) is told = absurd (cc told)

    module _ (r : ℕ) (told : Some r ≡ option_map (λ (q : Queue). q.region) (open_sq now sqid)) where
      pub told_aborts_none : ((queue : Queue) → open_sq now sqid ≡ Some queue → None ≡ slice_get (named now queue.region cid) 0) → [] ≡ abort_of now sqid cid
      told_aborts_none none = by (open_sq now sqid) refl told where
        by : (o : Option Queue) → open_sq now sqid ≡ o → Some r ≡ option_map (λ (q : Queue). q.region) o → [] ≡ abort_of now sqid cid
        by None is told = absurd (cc told)
        by (Some queue) is told = unnamed_aborts_none queue is (sym (none queue is))

      pub told_aborts : (i : ℕ) → ((queue : Queue) → open_sq now sqid ≡ Some queue → Some i ≡ slice_get (named now queue.region cid) 0) → Abort r i ∷ [] ≡ abort_of now sqid cid
      told_aborts i first = by (open_sq now sqid) refl told where
        by : (o : Option Queue) → open_sq now sqid ≡ o → Some r ≡ option_map (λ (q : Queue). q.region) o → Abort r i ∷ [] ≡ abort_of now sqid cid
        by None is told = absurd (cc told)
        by (Some queue) is told = ap (λ (x : ℕ). Abort x i ∷ []) (same_Some r queue.region told) ∙ aborts_first queue i is (sym (first queue is))

-- ---- what an admin command ends
-- a command that is neither a Delete of a submission queue nor an Abort ends none
pub others_end_none : (now : Past) (c : AdminCommand) → ((qid : ℕ) → c ≡ command.DeleteSq qid → ⊥) → ((sqid cid : ℕ) → c ≡ command.Abort sqid cid → ⊥) → IsEnding now c Nothing
others_end_none now (command.DeleteSq qid) no_delete no_abort = absurd (no_delete qid refl)
others_end_none now (command.Abort sqid cid) no_delete no_abort = absurd (no_abort sqid cid refl)
others_end_none now (command.CreateSq qid qsize prp1 cqid qprio pc) no_delete no_abort = tt
others_end_none now (command.DeleteCq qid) no_delete no_abort = tt
others_end_none now (command.CreateCq qid qsize prp1 pc) no_delete no_abort = tt
others_end_none now (command.SetFeatures fid sv cdw11) no_delete no_abort = tt
others_end_none now (command.GetFeatures fid) no_delete no_abort = tt
others_end_none now command.Other no_delete no_abort = tt
