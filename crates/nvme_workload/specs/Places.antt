-- Where the first fault of a workload file is. Places of a text look back from them. (profile)
use Rattle.std.specs.Prelude.{◌≡◌, ℕ, ◌+◌, ◌≤◌, ◌==◌, ◌||◌, Bool, not, nat_lt, nat_le, List, length, take, reverse, Some, Err, IsUtf8}
use Rattle.std.specs.List.{count_by, take_while}
use Rattle.std.specs.Str.{IsValidUpTo}
use Rattle.toml.specs.Data.{Members}
use Rattle.toml.specs.Errors.{span_start}
use Rattle.toml.specs.Parse.{parse_document}
use Rattle.nvme_workload.specs.declared.flaw.Flaw.{Flaw}
use Rattle.nvme_workload.specs.declared.flaw.Flaw.TheVariants as flaw
use Rattle.nvme_workload.specs.declared.flaw.PlanError.TheVariants.{At}
use Rattle.nvme_workload.specs.declared.key.Key.{Key}
use Rattle.nvme_workload.specs.declared.place.Place.{Place}
use Rattle.nvme_workload.specs.declared.place.Place.TheVariants.{Text, Table}
use Rattle.nvme_workload.specs.declared.place.Spot.{Spot}
use Rattle.nvme_workload.specs.declared.place.Spot.TheVariants as spot
use Rattle.nvme_workload.specs.declared.fault.Why.{Why}
use Rattle.nvme_workload.specs.declared.fault.Why.TheVariants as why
use Rattle.nvme_workload.specs.declared.fault.ReadError.{ReadError}
use Rattle.nvme_workload.specs.declared.fault.ReadError.TheVariants as told
use Rattle.nvme_workload.specs.Keys.{file_keys, submission_keys, completion_keys, command_keys}
use Rattle.nvme_workload.specs.Plan.{reading_of, workload_of}

-- a byte that ends a line
abbrev pub is_newline : ℕ → Bool
is_newline byte = byte == 0x0a

-- a byte that begins a character, which those from 80h to BFh go on with (UTF-8)
abbrev pub begins_character : ℕ → Bool
begins_character byte = nat_lt byte 0x80 || nat_le 0xc0 byte

-- the number of the line behind these bytes: a line more than newlines
abbrev pub line_behind : List ℕ → ℕ
line_behind bytes = count_by is_newline bytes + 1

-- the bytes back to the last newline, the last one first
abbrev pub line_back : List ℕ → List ℕ
line_back bytes = take_while (λ byte. not (is_newline byte)) (reverse bytes)

-- the number of the column behind these bytes: a column more than characters since the last newline
abbrev pub column_behind : List ℕ → ℕ
column_behind bytes = count_by begins_character (line_back bytes) + 1

-- the place behind these bytes
abbrev pub place_behind : List ℕ → Place
place_behind bytes = Text (line_behind bytes) (column_behind bytes)

-- a place of a text is that behind some of its first bytes, and every other one that of a table
abbrev pub IsPlaceIn : List ℕ → Place → Type 0
IsPlaceIn bytes (Text line column) = (count : ℕ) × (count ≤ length bytes) × (Text line column ≡ place_behind (take count bytes))
IsPlaceIn bytes (Table at) = Unit {0}

-- a place is that behind the longest part of these bytes, from the first on, that is UTF-8
abbrev pub IsBehindValid : List ℕ → Place → Type 0
IsBehindValid bytes place = (count : ℕ) × IsValidUpTo bytes count × (place ≡ place_behind (take count bytes))

-- what is no TOML document is told at the index that the TOML crate gives
abbrev pub IsBehindSyntax : List ℕ → Why → Place → Type 0
IsBehindSyntax bytes (why.Syntax e) place = place ≡ place_behind (take (span_start e) bytes)
IsBehindSyntax bytes cause place = Unit {0}

-- the keys that a table may have
abbrev pub keys_in : Spot → List Key
keys_in spot.Top = file_keys
keys_in (spot.Submission region) = submission_keys
keys_in (spot.Item region item) = command_keys
keys_in (spot.Completion region) = completion_keys

-- this is told of a flaw in a table: the key whose value, or number of items, isn't the expected one, or the keys that may stand there
abbrev pub IsToldOf : Spot → Flaw → Why → Type 0
IsToldOf at (flaw.Missing key) cause = cause ≡ why.Value key
IsToldOf at (flaw.Bad key) cause = cause ≡ why.Value key
IsToldOf at flaw.Unknown (why.Unknown key known) = known.now ≡ keys_in at
IsToldOf at flaw.Unknown cause = ⊥
IsToldOf at (flaw.Most key) cause = cause ≡ why.Most key
IsToldOf at flaw.Repeated cause = cause ≡ why.Repeated

-- the first flaw of a document is in this table, and is told so
abbrev pub IsFlawOf : Members → Place → Why → Type 0
IsFlawOf table (Table at) cause = (flaw : Flaw) × (reading_of table ≡ Err (At at flaw)) × IsToldOf at flaw cause
IsFlawOf table (Text line column) cause = ⊥

-- a place with this cause is that of the first fault of these bytes
pub record IsPlaced (bytes : List ℕ) (place : Place) (cause : Why) : Type 0 where
  pub within : IsPlaceIn bytes place
  pub not_utf8 : ¬ IsUtf8 bytes → IsBehindValid bytes place
  pub syntax : IsBehindSyntax bytes cause place
  pub document : (table : Members) → IsUtf8 bytes → parse_document bytes ≡ Some table → IsFlawOf table place cause

-- a fault is told at its place in these bytes
abbrev pub TellsPlace : List ℕ → ReadError → Type 0
TellsPlace bytes (told.Fault f) = IsPlaced bytes f.place f.why
TellsPlace bytes told.NoMemory = Unit {0}

-- the fault that is told is the first one of the bytes. Out of memory is told as such
abbrev pub TellsFault : List ℕ → ReadError → Type 0
TellsFault bytes (told.Fault f) = workload_of bytes ≡ Err f.error
TellsFault bytes told.NoMemory = Unit {0}
