-- What a line of a log says, or its first fault. (profile)
use Rattle.std.specs.Prelude.{ℕ, ◌+◌, Bool, nat_lt, is_some, is_none, if◌then◌else◌, List, length, Option, Some, None, ok_or, Result, Ok, Err}
use Rattle.std.specs.Str.{is_utf8}
use Rattle.serde_json.specs.Data.{Data}
use Rattle.serde_json.specs.Find.{get, as_object}
use Rattle.serde_json.specs.Read.{read}
use Rattle.nvme_entry.specs.AdminCommand.{admin_command_of}
use Rattle.nvme_lines.specs.Lines.{longest_line}
use Rattle.nvme_audit.specs.declared.event.Event.{Event}
use Rattle.nvme_audit.specs.declared.event.Event.TheVariants as event
use Rattle.nvme_arbiter.specs.History.{ArbitrationEvent}
use Rattle.nvme_trace.specs.declared.basis.Basis.TheVariants.{Specification}
use Rattle.nvme_trace.specs.declared.fault.LineFault.{LineFault as TraceFault}
use Rattle.nvme_trace.specs.Format as trace
use Rattle.nvme_trace.specs.Format.{event_view}
use Rattle.nvme_audit_text.specs.declared.fault.Kind.{Kind}
use Rattle.nvme_audit_text.specs.declared.fault.Kind.TheVariants as kind
use Rattle.nvme_audit_text.specs.declared.fault.Field.TheVariants as field
use Rattle.nvme_audit_text.specs.declared.fault.LineFault.{LineFault}
use Rattle.nvme_audit_text.specs.declared.fault.LineFault.TheVariants.{TooLong, NotUtf8, NotJson, NotObject, NoKind, NotTold, NoMechanism, Arbitration}
use Rattle.nvme_audit_text.specs.declared.views.View.{View}
use Rattle.nvme_audit_text.specs.declared.head.Head.{Head}
use Rattle.nvme_audit_text.specs.declared.events.Said.{Said}
use Rattle.nvme_audit_text.specs.declared.events.Said.TheVariants as said
use Rattle.nvme_audit_text.specs.Fields.{kind_text}
use Rattle.nvme_audit_text.specs.Readings.{◌>>=◌, ◌>>◌, only, one_at, number_at, maybe_at}
use Rattle.nvme_audit_text.specs.Heads.{head_in}
use Rattle.nvme_audit_text.specs.Entries.{entry_in, completion_in}
use Rattle.nvme_audit_text.specs.Views.{kept_if, seen_through}

-- ---- the kind of a line
abbrev pub has : Kind → Data → Bool
has k d = is_some (get (kind_text k) d)

unfoldable pub kind_in : Data → Option Kind
kind_in d =
    if has kind.Tail d then Some kind.Tail
    else (if has kind.Head d then Some kind.Head
    else (if has kind.Fetch d then Some kind.Fetch
    else (if has kind.Post d then Some kind.Post
    else (if has kind.Complete d then Some kind.Complete
    else (if has kind.Start d then Some kind.Start
    else (if has kind.Done d then Some kind.Done
    else (if has kind.Pick d then Some kind.Pick
    else (if has kind.Set d then Some kind.Set else None))))))))

-- ---- events
unfoldable pub tail_in : Data → Result Event LineFault
tail_in d = do
  sq ← number_at (field.Of kind.Tail) 65535 d
  slot ← number_at field.Slot 65535 d
  only 2 d
  Ok (event.Tail sq slot)

unfoldable pub head_doorbell_in : Data → Result Event LineFault
head_doorbell_in d = do
  cq ← number_at (field.Of kind.Head) 65535 d
  slot ← number_at field.Slot 65535 d
  only 2 d
  Ok (event.Head cq slot)

abbrev pub fetch_fields : Data → ℕ
fetch_fields d = 1 + one_at field.Slot d + one_at field.Sqe d + one_at field.Cid d + one_at field.Op d + one_at field.Cdw10 d + one_at field.Cdw11 d

unfoldable pub fetch_in : View → Data → Result Event LineFault
fetch_in view d = do
  sq ← number_at (field.Of kind.Fetch) 65535 d
  slot ← maybe_at field.Slot 65535 d
  entry ← entry_in d
  only (fetch_fields d) d
  Ok (event.Fetch sq (kept_if view.fetch_slots slot) entry.cid (admin_command_of entry))

abbrev pub completion_fields : Data → ℕ
completion_fields d = 1 + one_at field.Slot d + one_at field.Cqe d + one_at field.Sq d + one_at field.Cid d + one_at field.Status d + one_at field.Sqhd d + one_at field.Phase d + one_at field.Dw0 d

-- a completion, of either kind
unfoldable pub post_in : View → Kind → Data → Result Event LineFault
post_in view k d = do
  cq ← number_at (field.Of k) 65535 d
  slot ← maybe_at field.Slot 65535 d
  completion ← completion_in d
  only (completion_fields d) d
  Ok (event.Post cq (kept_if view.post_slots slot) (seen_through view completion))

-- ---- arbitration
-- a pick or a change of the settings, spelled as in a trace that is judged by the specification
abbrev pub of_trace : Result ArbitrationEvent TraceFault → Result ArbitrationEvent LineFault
of_trace (Ok e) = Ok e
of_trace (Err fault) = Err (Arbitration fault)

abbrev pub arbitration_in : Data → Result ArbitrationEvent LineFault
arbitration_in d = of_trace (trace.event_in Specification d)

-- ---- what a line tells
-- an event of queues, one of arbitration, or nothing that is looked at
pub data Heard : Type 0 where
  Nothing : Heard
  OfQueues : (event : Event) → Heard
  OfArbitration : (event : ArbitrationEvent) → Heard

abbrev pub event_heard : Heard → Option Event
event_heard Nothing = None
event_heard (OfQueues event) = Some event
event_heard (OfArbitration event) = None

abbrev pub arbitration_heard : Heard → Option ArbitrationEvent
arbitration_heard Nothing = None
arbitration_heard (OfQueues event) = None
arbitration_heard (OfArbitration event) = Some event

-- what the code reads, as one of these
abbrev pub heard_of : Said → Heard
heard_of said.Nothing = Nothing
heard_of (said.OfQueues event) = OfQueues event
heard_of (said.OfArbitration event) = OfArbitration (event_view event)

abbrev pub told : Result Event LineFault → Result Heard LineFault
told r = r >>= (λ e. Ok (OfQueues e))

-- what a view leaves of arbitration
abbrev pub arbitration_through : View → ArbitrationEvent → Heard
arbitration_through view e = if view.picks then OfArbitration e else Nothing

abbrev pub told_through : View → Result ArbitrationEvent LineFault → Result Heard LineFault
told_through view r = r >>= (λ e. Ok (arbitration_through view e))

-- a line of this kind. Of completions one kind counts. A `post` where the head doesn't tell them contradicts it, and so does a `pick`
unfoldable pub said_of : View → Head → Kind → Data → Result Heard LineFault
said_of view head kind.Tail d = told (tail_in d)
said_of view head kind.Head d = told (head_doorbell_in d)
said_of view head kind.Fetch d = told (fetch_in view d)
said_of view head kind.Post d =
    if head.has_posts then (if head.start.tells.posts then told (post_in view kind.Post d) else Ok Nothing) else Err (NotTold kind.Post)
said_of view head kind.Complete d = if head.start.tells.posts then Ok Nothing else told (post_in view kind.Complete d)
said_of view head kind.Start d = Ok Nothing
said_of view head kind.Done d = Ok Nothing
said_of view head kind.Pick d =
    if is_none head.arbitration then Err (NoMechanism kind.Pick) else (if head.has_picks then told_through view (arbitration_in d) else Err (NotTold kind.Pick))
said_of view head kind.Set d = if is_none head.arbitration then Err (NoMechanism kind.Set) else told_through view (arbitration_in d)

unfoldable pub said_in : View → Head → Data → Result Heard LineFault
said_in view head d = ok_or (kind_in d) NoKind >>= (λ k. said_of view head k d)

-- ---- a line
unfoldable pub data_of : List ℕ → Result Data LineFault
data_of line = if nat_lt longest_line (length line) then Err TooLong else (if is_utf8 line then ok_or (read line) NotJson else Err NotUtf8)

-- its value is an object
unfoldable pub object_in : Data → Result (Unit {0}) LineFault
object_in d = if is_some (as_object d) then Ok tt else Err NotObject

unfoldable pub head_of_line : View → List ℕ → Result Head LineFault
head_of_line view line = do
  d ← data_of line
  object_in d
  head_in view d

-- what a later line tells
unfoldable pub said_of_line : View → Head → List ℕ → Result Heard LineFault
said_of_line view head line = do
  d ← data_of line
  object_in d
  said_in view head d

-- the event of queues that it tells, if any
abbrev pub event_of_line : View → Head → List ℕ → Result (Option Event) LineFault
event_of_line view head line = said_of_line view head line >>= (λ said. Ok (event_heard said))

-- the event of arbitration, if any
abbrev pub arbitration_told : Result Heard LineFault → Option ArbitrationEvent
arbitration_told (Ok said) = arbitration_heard said
arbitration_told (Err fault) = None

abbrev pub arbitration_of_line : View → Head → List ℕ → Option ArbitrationEvent
arbitration_of_line view head line = arbitration_told (said_of_line view head line)
