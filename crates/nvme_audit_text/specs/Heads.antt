-- What the head of a log says. (profile; the sizes: Base Specification, Admin Queue Attributes)
use Rattle.std.specs.Prelude.{ℕ, ◌+◌, ◌-◌, ◌==◌, ◌&&◌, ◌||◌, Bool, true, false, is_some, nat_lt, nat_eq, if◌then◌else◌, codes, List, Option, Some, None, Result, Ok, Err}
use Rattle.std.specs.Cmp.Lexicographic.{pointwise}
use Rattle.serde_json.specs.Data.{Data, Items, no_items, item}
use Rattle.serde_json.specs.Find.{get, as_str, as_array}
use Rattle.nvme_arbiter.specs.Settings.{settings_of}
use Rattle.nvme_arbiter.specs.declared.settings.Mechanism.{Mechanism}
use Rattle.nvme_audit.specs.declared.facts.Tells.{Tells}
use Rattle.nvme_trace.specs.declared.fault.LineFault.{LineFault as TraceFault}
use Rattle.nvme_trace.specs.declared.records.Head.{Head as TraceHead}
use Rattle.nvme_trace.specs.Format.{mechanism_of}
use Rattle.nvme_audit_text.specs.declared.fault.Kind.{Kind}
use Rattle.nvme_audit_text.specs.declared.fault.Kind.TheVariants as kind
use Rattle.nvme_audit_text.specs.declared.fault.Field.{Field}
use Rattle.nvme_audit_text.specs.declared.fault.Field.TheVariants as field
use Rattle.nvme_audit_text.specs.declared.fault.LineFault.{LineFault}
use Rattle.nvme_audit_text.specs.declared.fault.LineFault.TheVariants.{Missing, Bad, Untold}
use Rattle.nvme_audit_text.specs.declared.views.View.{View}
use Rattle.nvme_audit_text.specs.declared.views.Completions.{Completions}
use Rattle.nvme_audit_text.specs.declared.views.Completions.TheVariants.{AsTold, Posts, Reads}
use Rattle.nvme_audit_text.specs.declared.head.Head.{Head}
use Rattle.nvme_audit_text.specs.Fields.{text_of, kind_text}
use Rattle.nvme_audit_text.specs.Readings.{◌>>=◌, ◌>>◌, only, one_at, value_at, number_at, maybe_at, at_least_one}

-- ---- the kinds that are told
abbrev pub is_text : List ℕ → Option (List ℕ) → Bool
is_text wanted None = false
is_text wanted (Some text) = pointwise nat_eq text wanted

abbrev pub names : Kind → Data → Bool
names k d = is_text (kind_text k) (as_str d)

-- a value is the name of a kind
abbrev pub is_kind : Data → Bool
is_kind d = names kind.Tail d || names kind.Head d || names kind.Fetch d || names kind.Post d || names kind.Complete d || names kind.Start d || names kind.Done d || names kind.Pick d

abbrev pub are_kinds : Items → Bool
are_kinds no_items = true
are_kinds (item d ds) = is_kind d && are_kinds ds

-- a kind is among them
abbrev pub has_kind : Kind → Items → Bool
has_kind k no_items = false
has_kind k (item d ds) = names k d || has_kind k ds

abbrev pub checked_kinds : Option Items → Result Items LineFault
checked_kinds None = Err (Bad field.Tells)
checked_kinds (Some ds) = if are_kinds ds then Ok ds else Err (Bad field.Tells)

unfoldable pub told_in : Data → Result Items LineFault
told_in d = value_at field.Tells d >>= (λ v. checked_kinds (as_array v))

-- all fetches are told
abbrev pub if_told : Kind → Items → Result (Unit {0}) LineFault
if_told k told = if has_kind k told then Ok tt else Err (Untold k)

-- whether completions count where they were written: those of the other kind don't
unfoldable pub posts_by : Completions → Items → Result Bool LineFault
posts_by AsTold told = if has_kind kind.Post told then Ok true else (if_told kind.Complete told >> Ok false)
posts_by Posts told = if_told kind.Post told >> Ok true
posts_by Reads told = if_told kind.Complete told >> Ok false

-- ---- the other fields
-- version 1 is the only one
abbrev pub version_of : ℕ → Result (Unit {0}) LineFault
version_of version = if version == 1 then Ok tt else Err (Bad field.Log)

-- 2 to 4096 slots, as the zero based size that the registers have
abbrev pub size_of : Field → ℕ → Result ℕ LineFault
size_of name slots = if nat_lt slots 2 then Err (Bad name) else Ok (slots - 1)

unfoldable pub size_at : Field → Data → Result ℕ LineFault
size_at name d = number_at name 4096 d >>= size_of name

-- who made the log: any text
abbrev pub text_from : Option Data → Result (Unit {0}) LineFault
text_from None = Ok tt
text_from (Some v) = if is_some (as_str v) then Ok tt else Err (Bad field.By)

-- whether nothing more would come, or the log was cut
abbrev pub end_from : Option Data → Result (Unit {0}) LineFault
end_from None = Ok tt
end_from (Some v) = if is_text (codes "quiet") (as_str v) || is_text (codes "cut") (as_str v) then Ok tt else Err (Bad field.End)

-- what no rule reads: who made the log, how it ended, and two limits of the controller
unfoldable pub unread_in : Data → Result (Unit {0}) LineFault
unread_in d = do
  text_from (get (text_of field.By) d)
  end_from (get (text_of field.End) d)
  maybe_at field.Queues 65536 d >>= at_least_one field.Queues
  maybe_at field.Mqes 65536 d >>= at_least_one field.Mqes

-- ---- arbitration
abbrev pub named : Result Mechanism TraceFault → Result (Option Mechanism) LineFault
named (Ok mechanism) = Ok (Some mechanism)
named (Err e) = Err (Bad field.Mechanism)

-- the mechanism where it is told, spelled as in a trace
abbrev pub mechanism_from : Option Data → Result (Option Mechanism) LineFault
mechanism_from None = Ok None
mechanism_from (Some v) = named (mechanism_of v)

-- it is told with Command Dword 11 of the Arbitration feature, or neither is
abbrev pub arbitration_by : Option Mechanism → Option ℕ → Result (Option TraceHead) LineFault
arbitration_by None None = Ok None
arbitration_by None (Some cdw11) = Err (Missing field.Mechanism)
arbitration_by (Some mechanism) None = Err (Missing field.Settings)
arbitration_by (Some mechanism) (Some cdw11) = Ok (Some (record { mechanism = mechanism; settings = settings_of cdw11 }))

unfoldable pub arbitration_in : Data → Result (Option TraceHead) LineFault
arbitration_in d = do
  mechanism ← mechanism_from (get (text_of field.Mechanism) d)
  cdw11 ← maybe_at field.Settings 4294967295 d
  arbitration_by mechanism cdw11

-- whether all picks are told: where they are, the mechanism is told too
abbrev pub picks_told : Option TraceHead → Items → Result Bool LineFault
picks_told None told = if has_kind kind.Pick told then Err (Missing field.Mechanism) else Ok false
picks_told (Some arbitration) told = Ok (has_kind kind.Pick told)

abbrev pub head_fields : Data → ℕ
head_fields d = 4 + one_at field.By d + one_at field.End d + one_at field.Queues d + one_at field.Mqes d + one_at field.Mechanism d + one_at field.Settings d

-- ---- the head, through a view
abbrev pub tells_of : View → Items → Bool → Tells
tells_of view told posts = record { tails = has_kind kind.Tail told && view.tails; heads = has_kind kind.Head told && view.heads; posts = posts }

unfoldable pub head_in : View → Data → Result Head LineFault
head_in view d = do
  version ← number_at field.Log 1 d
  version_of version
  told ← told_in d
  if_told kind.Fetch told
  posts ← posts_by view.completions told
  asqs ← size_at field.Asq d
  acqs ← size_at field.Acq d
  unread_in d
  arbitration ← arbitration_in d
  has_picks ← picks_told arbitration told
  only (head_fields d) d
  Ok (record { start = record { tells = tells_of view told posts; asqs = asqs; acqs = acqs }; has_posts = has_kind kind.Post told; arbitration = arbitration; has_picks = has_picks })
