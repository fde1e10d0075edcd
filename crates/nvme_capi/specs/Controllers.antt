-- What a controller of C is, and what its calls write, in the library's terms (profile).
use Rattle.std.specs.Prelude.{◌≡◌, ℕ, ◌+◌, ◌*◌, ◌/◌, ◌%◌, ◌==◌, ◌&&◌, nat_lt, nat_le, Bool, true, false, if◌then◌else◌, List, [], length, Option, None, IsSomeAnd, is_some}
use Rattle.std.specs.Int.{is_power_of_two}
use Rattle.nvme_entry.specs.Bits.{bits_of, dword}
use Rattle.nvme_entry.specs.declared.completion.Cqe.{Cqe}
use Rattle.nvme_arbiter.specs.Settings.{settings_of, class_of_number}
use Rattle.nvme_arbiter.specs.declared.settings.Class.{Class}
use Rattle.nvme_arbiter.specs.Layout.{mechanism_of}
use Rattle.nvme_admin.specs.declared.bounds.TheConstants.{MAX_IO_QUEUES, MAX_QSIZE}
use Rattle.nvme_admin.specs.declared.limits.Limits.{Limits}
use Rattle.nvme_log.specs.Rules.{FrontRules}
use Rattle.nvme_log.specs.Answers.{Answer}
use Rattle.nvme_ctrl_log.specs.Notes.{Notes}
use Rattle.nvme_ctrl.specs.Standing.{Stands, IsController, has_arbiter}
use Rattle.nvme_ctrl_log.specs.Tags.{is_out}
use Rattle.nvme_slots.specs.Generations.{tag_at, tag_of, slot_of}
use Rattle.nvme_ctrl_log.specs.Making.{first_rules, anywhere_rules, placing_in}
use Rattle.nvme_ctrl.specs.Calls.{HasPosted}
use Rattle.nvme_ctrl.specs.Posts.{IsPostOf}
use Rattle.nvme_ctrl.specs.Steps.{HasDone}
use Rattle.nvme_ctrl_log.specs.Steps.{NamesIdentifiers, IsVerdictOf}
use Rattle.nvme_admin.specs.Effects.{verdict_in}
use Rattle.nvme_admin.specs.Placing.{vector_of, interrupts_of}
use Rattle.nvme_admin.specs.declared.effect.Effect.{Effect}
use Rattle.nvme_admin.specs.declared.effect.Effect.TheVariants.{OpenSq, OpenCq}
use Rattle.nvme_entry.specs.AdminCommand.{admin_command_of}
use Rattle.nvme_entry.specs.declared.submission.Sqe.{Sqe}
use Rattle.nvme_capi.specs.declared.ctrl.state.AskedFields.{AskedFields}
use Rattle.nvme_capi.specs.declared.ctrl.state.PlacementFields.{PlacementFields}
use Rattle.nvme_slots.specs.Pool.{slot_at}
use Rattle.nvme_ctrl_log.specs.declared.status_flags.StatusFlags.{StatusFlags}
use Rattle.nvme_slots.specs.declared.slot.Slot.{Slot}
use Rattle.nvme_ctrl.specs.declared.state.Controller.{Controller}
use Rattle.nvme_capi.specs.Fields.{code_of}
use Rattle.nvme_capi.specs.Tables.{is_limit, answer_of}
use Rattle.nvme_capi.specs.declared.fields.StatusFields.{StatusFields}
use Rattle.nvme_capi.specs.declared.answers.AnswerFields.{AnswerFields}
use Rattle.nvme_capi.specs.declared.ctrl.state.TheConstants.{MARK, MAX_DEPTH}
use Rattle.nvme_capi.specs.declared.ctrl.state.CtrlState.{CtrlState}
use Rattle.nvme_capi.specs.declared.ctrl.state.ConfigFields.{ConfigFields}
use Rattle.nvme_capi.specs.declared.ctrl.state.CommandFields.{CommandFields}
use Rattle.nvme_capi.specs.declared.states.PickFields.{PickFields}
use Rattle.nvme_capi.specs.declared.ctrl.state.PostFields.{PostFields}

-- ---- states
-- a controller is one that was made, by its mark, and slots are as many as it was made with
abbrev pub is_ctrl : CtrlState → Bool
is_ctrl s = s.mark == MARK

abbrev pub has_slots : CtrlState → List Slot → Bool
has_slots s slots = length slots == s.count

-- a call leaves what makes a state a controller: its mark, and the number of slots that it was made with
abbrev pub StaysMade : CtrlState → CtrlState → Type 0
StaysMade old new = (new.mark ≡ old.mark) × (new.count ≡ old.count)

-- what arbitration keeps is in its ranges, too: of any bytes a pick asks no more
abbrev pub is_intact : CtrlState → Bool
is_intact s = is_ctrl s && has_arbiter s.ctrl

-- what the calls keep: with these slots a controller that was made is one that its calls made. Where the caller wrote into one of them, a call reads and
-- writes what it is given all the same, and no more
pub record IsKept (s : CtrlState) (slots : List Slot) : Type 0 where
  pub front : is_ctrl s ≡ true → has_slots s slots ≡ true → IsController s.ctrl slots

-- ---- making
-- a number can be the depth of a submission queue (profile)
abbrev pub is_depth : ℕ → Bool
is_depth depth = nat_le 1 depth && nat_le depth MAX_DEPTH

-- that of the submission queue of an identifier
abbrev pub has_depth : (qid depth : ℕ) → Bool
has_depth qid depth = nat_le qid MAX_IO_QUEUES && is_depth depth

-- both depths of a configuration can
abbrev pub has_depths : ConfigFields → Bool
has_depths f = is_depth f.depth && is_depth f.admin_depth

-- the numbers of a configuration are in their ranges, and so many slots can be a pool
abbrev pub is_config : ConfigFields → (count : ℕ) → Bool
is_config f count = is_limit f.nsq && (is_limit f.ncq && (has_depths f && (nat_lt 0 count && nat_lt count 65536)))

-- what a Create may ask for is in its ranges: the page is a power of two, QSIZE is limited by a ring that the controller takes, and there is an
-- interrupt vector (Base Specification, Controller Capabilities, MQES, Controller Configuration, MPS; the largest ring, vectors: profile)
abbrev pub is_placement : PlacementFields → Bool
is_placement p = is_power_of_two p.page && (nat_le 1 p.mqes && (nat_le p.mqes MAX_QSIZE && nat_le 1 p.vectors))

-- the controller of a configuration stands at the empty log
pub record IsMadeOf (f : ConfigFields) (sizes : List ℕ) (c : Controller) (slots : List Slot) : Type 0 where
  pub limits : Limits
  pub nsq_is : limits.nsq ≡ f.nsq
  pub ncq_is : limits.ncq ≡ f.ncq
  pub stands : Stands (first_rules (mechanism_of f.mechanism) (settings_of f.cdw11) limits f.asq f.acq sizes) false [] c slots

-- so where queues may lie anywhere
pub record IsMadeAnywhereOf (f : ConfigFields) (p : PlacementFields) (sizes : List ℕ) (c : Controller) (slots : List Slot) : Type 0 where
  pub limits : Limits
  pub nsq_is : limits.nsq ≡ f.nsq
  pub ncq_is : limits.ncq ≡ f.ncq
  pub stands : Stands (anywhere_rules (mechanism_of f.mechanism) (settings_of f.cdw11) limits (record { page = p.page; mqes = p.mqes; vectors = p.vectors }) f.asq f.acq sizes) false [] c slots

-- ---- commands
-- the device has the command of a tag, which isn't used up
abbrev pub IsOutUnder : Notes → List Slot → (tag : ℕ) → Type 0
IsOutUnder notes slots tag = IsSomeAnd (slot_of slots (tag_of tag)) (λ slot. is_out notes slot ≡ true)

-- a command is the one in a slot, under its tag, with what the caller keeps with it
pub record IsCommandIn (slots : List Slot) (tag : ℕ) (f : CommandFields) : Type 0 where
  pub tag_is : tag_of f.tag ≡ tag_at slots tag
  pub entry : f.entry ≡ (slot_at slots tag).entry
  pub cookie_is : f.cookie ≡ (slot_at slots tag).cookie

-- nothing is asked for but by a Create
abbrev pub nothing_asked : AskedFields
nothing_asked = record { address = 0; qsize = 0; vector = 0; interrupts = 0 }

-- what a Create that made a queue asked for: PRP1, QSIZE, which is zero based, and of a completion queue IV and IEN; 0 of
-- all other commands. (Base Specification, Create I/O Submission Queue, Create I/O Completion Queue)
abbrev pub asked_in : Effect → Sqe → AskedFields
asked_in (OpenSq qid region cqid cq_region class) entry = record { address = entry.prp1; qsize = bits_of 31 16 entry.cdw10; vector = 0; interrupts = 0 }
asked_in (OpenCq qid region) entry = record { address = entry.prp1; qsize = bits_of 31 16 entry.cdw10; vector = vector_of entry; interrupts = if interrupts_of entry then 1 else 0 }
asked_in effect entry = nothing_asked

-- a command of the admin queue was picked and carried out, and what it came to is told, with what it asked for. Where queues may lie anywhere, the regions that
-- are told are identifiers
pub record HasToldWhat (rules : FrontRules) (late : Bool) (notes : Notes) (told : AnswerFields) (asked : AskedFields) (c : Controller) (slots : List Slot) : Type 0 where
  pub effect : Effect
  pub entry : Sqe
  pub told_is : told ≡ answer_of (verdict_in effect)
  pub asked_is : asked ≡ asked_in effect entry
  -- it is of this command
  pub commanded : IsVerdictOf (admin_command_of entry) (verdict_in effect)
  pub anywhere : is_some (placing_in rules) ≡ true → NamesIdentifiers effect
  pub done : HasDone rules late notes effect entry c slots

-- the pick of a step that picked nothing for the device
abbrev pub no_pick : PickFields
no_pick = record { qid = 0; n = 0; fresh = 0 }

-- the priority class of an I/O queue that a number says: 1 urgent to 4 low
abbrev pub io_class_of : ℕ → Option Class
io_class_of n = if n == 0 then None else class_of_number n

-- the answer of a device
abbrev pub device_answer : StatusFields → (dw0 : ℕ) → Answer
device_answer f dw0 = record { status = code_of f; dw0 = dw0 }

-- the flags that a number says: bit 0 is Do Not Retry, bit 1 is More
abbrev pub flags_by : ℕ → StatusFlags
flags_by flags = record { more = flags / 2 == 1; do_not_retry = flags % 2 == 1 }

-- the number of the flags in the bytes of a completion queue entry
abbrev pub flags_number : List ℕ → ℕ
flags_number bytes = bits_of 31 31 (dword 3 bytes) + 2 * bits_of 30 30 (dword 3 bytes)

-- ---- completions
-- 16 bytes hold a completion queue entry with its flags: More is bit 30 of Dword 3, and Do Not Retry bit 31
-- (Base Specification, Completion Queue Entry: Status Field; that CRD and Dword 1 are 0: profile)
pub record IsFlaggedEntry (bytes : List ℕ) (entry : Cqe) (flags : StatusFlags) : Type 0 where
  pub whole : length bytes ≡ 16
  pub dw0 : entry.dw0 ≡ dword 0 bytes
  pub reserved : dword 1 bytes ≡ 0
  pub sqhd : entry.sqhd ≡ bits_of 15 0 (dword 2 bytes)
  pub sqid : entry.sqid ≡ bits_of 31 16 (dword 2 bytes)
  pub cid : entry.cid ≡ bits_of 15 0 (dword 3 bytes)
  pub phase : (if entry.phase then 1 else 0) ≡ bits_of 16 16 (dword 3 bytes)
  pub sc : entry.status.sc ≡ bits_of 24 17 (dword 3 bytes)
  pub sct : entry.status.sct ≡ bits_of 27 25 (dword 3 bytes)
  pub crd : bits_of 29 28 (dword 3 bytes) ≡ 0
  pub more : (if flags.more then 1 else 0) ≡ bits_of 30 30 (dword 3 bytes)
  pub do_not_retry : (if flags.do_not_retry then 1 else 0) ≡ bits_of 31 31 (dword 3 bytes)

-- the bytes of a completion queue entry are told that is posted to a completion queue, and the slot of the ring that they go into
pub record HasPostedBytes (rules : FrontRules) (late : Bool) (notes : Notes) (cqid : ℕ) (f : PostFields) (c : Controller) (slots : List Slot) : Type 0 where
  pub cqe : Cqe
  pub flags : StatusFlags
  pub layout : IsFlaggedEntry f.bytes cqe flags
  pub posted : HasPosted rules late notes cqid f.slot cqe f.cookie flags c slots

-- they are those of the command in the slot of the tag
pub record IsPostIn (slots : List Slot) (f : PostFields) : Type 0 where
  pub cqe : Cqe
  pub flags : StatusFlags
  pub layout : IsFlaggedEntry f.bytes cqe flags
  pub tag_is : tag_of f.tag ≡ tag_at slots (tag_of f.tag).slot
  pub command : IsPostOf (slot_at slots (tag_of f.tag).slot) cqe f.cookie flags
