-- Whether an Abort command names a command that waits.
use Rattle.std.proofs.Common.{◌≡◌, ℕ, ◌==◌, ◌&&◌, Bool, true, false, not, if◌then◌else◌, List, [], ◌∷◌, map, drop, length, Option, Some, None, refl, sym, ap, ◌∙◌}
use Rattle.std.specs.Prelude.{is_some, option_map, option_to_list}
use Rattle.std.specs.List.{All}
use Rattle.std.proofs.lemmas.List.Elements.{All-head, All-tail}
use Rattle.nvme_entry.specs.AdminCommand.{admin_command_of}
use Rattle.nvme_entry.specs.declared.submission.Sqe.{Sqe}
use Rattle.nvme_entry.specs.declared.admin.AdminCommand.{AdminCommand}
use Rattle.nvme_entry.specs.declared.admin.AdminCommand.TheVariants as command
use Rattle.nvme_log.specs.declared.event.Event.{Event}
use Rattle.nvme_log.specs.declared.event.Event.TheVariants as event
use Rattle.nvme_log.specs.Rules.{FrontRules, Past}
use Rattle.nvme_log.specs.Queues.{Queue, open_sq}
use Rattle.nvme_log.specs.Effects.{abort_in, abort_of}
use Rattle.nvme_ctrl_log.specs.Notes.{Notes, logged}
use Rattle.nvme_ctrl_log.specs.Own.{kind_may_be_own, names_none, may_be_own}
use Rattle.nvme_ctrl.specs.Own.{is_announced, is_own}
use Rattle.nvme_ctrl.specs.declared.own.OwnCommands.{OwnCommands}
use Rattle.nvme_slots.specs.declared.slot.Slot.{Slot}
use Rattle.nvme_ctrl.specs.declared.state.Controller.{Controller}
use Rattle.nvme_ctrl_content.specs.Content.{Candidate}
use Rattle.nvme_ctrl.specs.kept.Kept.{Item, IsWaitingIn, StandsAt, candidate_of, tags_of, picked_of}
use Rattle.nvme_slots.specs.Pool.{slot_at, named_in, found_in, IsChain}
use Rattle.nvme_ctrl.specs.kept.State.{sq_at}
use Rattle.nvme_ctrl_content.specs.Steps.{oldest_named}
use Rattle.nvme_ctrl.proofs.CarriedOut.{none_picked_in}
use Rattle.nvme_ctrl.proofs.CarryAbort.{target_is}
use Rattle.nvme_slots.proofs.Chains.{named-found}
use Rattle.nvme_ctrl_content.proofs.Named.{first_named}

-- ---- the device's
-- what is the device's may be
pub own_may : (own : OwnCommands) (past : Past) (entry : Sqe) → is_own own past entry ≡ true → may_be_own past entry ≡ true
own_may own past entry h = by (kind_may_be_own entry) (is_announced own entry (admin_command_of entry)) (names_none past (admin_command_of entry)) h where
  by : (a b d : Bool) → ((a && b) && d) ≡ true → (a && d) ≡ true
  by true true d h = h
  by true false d h = cc h
  by false b d h = cc h

-- ---- commands that name none
pub not_twice : (b : Bool) → not (not b) ≡ b
not_twice true = refl
not_twice false = refl

-- any other command
pub others_name_none : (past : Past) (c : AdminCommand) → ((sqid cid : ℕ) → c ≡ command.Abort sqid cid → ⊥) → names_none past c ≡ true
others_name_none past (command.Abort sqid cid) other = absurd (other sqid cid refl)
others_name_none past command.Other other = refl
others_name_none past (command.SetFeatures fid sv cdw11) other = refl
others_name_none past (command.GetFeatures fid) other = refl
others_name_none past (command.DeleteSq qid) other = refl
others_name_none past (command.CreateSq qid qsize prp1 cqid qprio pc) other = refl
others_name_none past (command.DeleteCq qid) other = refl
others_name_none past (command.CreateCq qid qsize prp1 pc) other = refl

-- an Abort of a command of the admin queue
pub admin_names_none : (past : Past) (sqid cid : ℕ) → sqid ≡ 0 → names_none past (command.Abort sqid cid) ≡ true
admin_names_none past sqid cid admin = ap (λ (q : ℕ). names_none past (command.Abort q cid)) admin

-- one of a queue that isn't open
pub unopened_names_none : (past : Past) (sqid cid : ℕ) → open_sq past sqid ≡ None → names_none past (command.Abort sqid cid) ≡ true
unopened_names_none past sqid cid unopened = by (sqid == 0) where
  by : (b : Bool) → (length (abort_in past cid (if b then None else open_sq past sqid)) == 0) ≡ true
  by true = refl
  by false = ap (λ (o : Option Queue). length (abort_in past cid o) == 0) unopened

-- ---- an open queue
-- a queue that is told is open
pub record IsOpen (o : Option Queue) : Type 0 where
  pub queue : Queue
  pub is : o ≡ Some queue

pub some_open : (o : Option Queue) → is_some o ≡ true → IsOpen o
some_open None told = absurd (cc told)
some_open (Some queue) told = record { queue = queue; is = refl }

-- where none is told, none is open
pub none_open : (o : Option Queue) → is_some o ≡ false → o ≡ None
none_open None told = refl
none_open (Some queue) told = absurd (cc told)

-- a slot of a window is found where a candidate is
found_both : (slots : List Slot) (q r cid : ℕ) (its : List Item) → All (IsWaitingIn slots q r) its → is_some (named_in slots cid (tags_of its)) ≡ is_some (oldest_named cid (map candidate_of its))
found_both slots q r cid [] waits = refl
found_both slots q r cid (it ∷ its) waits =
    by ((slot_at slots it.tag).entry.cid == cid) (it.entry.cid == cid) (ap (λ (e : Sqe). e.cid == cid) (All-head (IsWaitingIn slots q r) it its waits).entry)
    (found_both slots q r cid its (All-tail (IsWaitingIn slots q r) it its waits)) where
      by : (b c : Bool) → b ≡ c → is_some (named_in slots cid (tags_of its)) ≡ is_some (oldest_named cid (map candidate_of its))
          → is_some (if b then Some it.tag else named_in slots cid (tags_of its)) ≡ is_some (if c then Some (candidate_of it) else oldest_named cid (map candidate_of its))
      by true true e later = refl
      by true false e later = absurd (cc e)
      by false true e later = absurd (cc e)
      by false false e later = later

-- with the slot before it, or without
without_before : (o : Option (ℕ × ℕ)) → is_some o ≡ is_some (option_map (λ (r : ℕ × ℕ). r.1) o)
without_before None = refl
without_before (Some both) = refl

-- an Abort of a candidate makes an event
made_where : (r : ℕ) (o : Option Candidate)
    → is_some o ≡ not (length (map (λ (i : ℕ). event.Abort r i) (map (λ (c : Candidate). c.index) (option_to_list o))) == 0)
made_where r None = refl
made_where r (Some candidate) = refl

module _ (rules : FrontRules) (late : Bool) (notes : Notes) (c : Controller) (slots : List Slot) (s : StandsAt rules late notes c slots) (none : c.picked ≡ 0)
    (sqid cid : ℕ) (io : sqid ≡ 0 → ⊥) (queue : Queue) (opened : open_sq (logged notes) sqid ≡ Some queue) where
  abbrev now : Past
  now = logged notes

  abbrev r : ℕ
  r = queue.region

  abbrev its : List Item
  its = s.items.windows r

  life : s.content.sq_life sqid ≡ Some r
  life = s.holds.lives.sqs sqid queue opened

  window_all : (s.content.sq r).window ≡ map candidate_of its
  window_all = s.has.windows.are r ∙ ap (λ (o : Option ℕ). map candidate_of (drop (picked_of c o) its)) (s.numbers.sqs.ids.ids_are sqid r life)
      ∙ ap (λ (n : ℕ). map candidate_of (drop n its)) (none_picked_in c sqid none)

  -- the slots of its window are in a chain
  pub window_linked : IsChain slots (sq_at c.sqs sqid).window (tags_of its)
  window_linked = s.has.windows.chain sqid r life

  made : abort_of now sqid cid ≡ abort_in now cid (Some queue)
  made = ap (λ (o : Option Queue). abort_in now cid o) (target_is now sqid io ∙ opened)

  -- the Abort finds what the window has
  pub window_names : (o : Option (ℕ × ℕ)) → o ≡ found_in slots cid (sq_at c.sqs sqid).window.first (tags_of its) → is_some o ≡ not (names_none now (command.Abort sqid cid))
  window_names o found =
      without_before o
      ∙ ap (λ (x : Option (ℕ × ℕ)). is_some (option_map (λ (y : ℕ × ℕ). y.1) x)) found
      ∙ ap (λ (x : Option ℕ). is_some x) (sym (named-found slots cid (sq_at c.sqs sqid).window.first (tags_of its)))
      ∙ found_both slots sqid r cid its (s.has.windows.items sqid r life)
      ∙ ap (λ (w : List Candidate). is_some (oldest_named cid w)) (sym window_all)
      ∙ made_where r (oldest_named cid (s.content.sq r).window)
      ∙ ap (λ (is : List ℕ). not (length (map (λ (i : ℕ). event.Abort r i) is) == 0)) (sym (first_named now r cid (s.content.sq r) (s.holds.regions r)))
      ∙ ap (λ (es : List Event). not (length es == 0)) (sym made)
