-- What is told of all picks of a trace that differ from those of this front, each judged after the picks that were made before it.
-- (Base Specification, Command Arbitration; what is told: profile)
use Rattle.std.specs.Prelude.{◌≡◌, ◌≢◌, ◌⊎◌, ℕ, ◌+◌, ◌==◌, min, Bool, true, false, if◌then◌else◌, List, [], ◌∷◌, ◌++◌, map, take, reverse, Option, Some, None, option_and_then}
use Rattle.nvme_arbiter.specs.Settings.{ArbitrationFields, IsLevel}
use Rattle.nvme_arbiter.specs.Observation.{IsObservation, class_in}
use Rattle.nvme_arbiter.specs.History.{Picked, Changed, History, settings_after, last_served, last_served_of, used_in_round}
use Rattle.nvme_arbiter.specs.Standing.{last_of, used_of}
use Rattle.nvme_arbiter.specs.declared.settings.Class.{Class}
use Rattle.nvme_arbiter.specs.declared.settings.Mechanism.{Mechanism}
use Rattle.nvme_arbiter.specs.declared.settings.Mechanism.TheVariants.{RoundRobin, Weighted}
use Rattle.nvme_arbiter.specs.declared.kept.Kept.{Kept}
use Rattle.nvme_arbiter.specs.declared.pick.Seen.{Seen}
use Rattle.nvme_arbiter.specs.declared.pick.Pick.{Pick}
use Rattle.nvme_trace.specs.Taken.{as_written, pick_within, IsTakenPick}
use Rattle.nvme_lines.specs.Lines.{told_lines}
use Rattle.nvme_trace.specs.Format.{room_of_line}
use Rattle.nvme_trace.specs.Judged.{count_in, picks_in}
use Rattle.nvme_trace.specs.Checks.{TellsBy, BeginsAfter, IsLawfulBy}
use Rattle.nvme_trace.specs.declared.basis.Basis.TheVariants.{Profile}
use Rattle.nvme_trace.specs.declared.judge.Finding.{Finding}
use Rattle.nvme_trace.specs.declared.records.Head.{Head}
use Rattle.nvme_trace.specs.declared.survey.Kind.{Kind}
use Rattle.nvme_trace.specs.declared.survey.Kind.TheVariants.{NothingReady, Queue, Number, Fresh}
use Rattle.nvme_trace.specs.declared.survey.Difference.{Difference}
use Rattle.nvme_trace.specs.declared.survey.Counts.{Counts}
use Rattle.nvme_trace.specs.declared.survey.Survey.{Survey}

-- ---- what is kept of the picks that were made, whatever they are
-- commands of a level are counted up to this number: no weight is greater
abbrev pub capped_used : ℕ → ℕ
capped_used n = min n 65535

abbrev pub Remembers : Mechanism → History → Kept → Type 0
Remembers RoundRobin past k = k.last.all ≡ last_served past
Remembers Weighted past k = ((class : Class) → last_of k.last class ≡ last_served_of class past) × ((level : Class) → IsLevel level → used_of k.used level ≡ capped_used (used_in_round level past))

-- what is kept follows a history
pub record Follows (mechanism : Mechanism) (first : ArbitrationFields) (past : History) (k : Kept) : Type 0 where
  pub mechanism_is : k.mechanism ≡ mechanism
  pub settings_are : k.settings ≡ settings_after first past
  pub remembers : Remembers mechanism past k

-- ---- a pick that differs
-- what is told of a pick that isn't taken for the lawful one after the picks that were made, in the room that is told
pub record IsDifferent (head : Head) (past : History) (room : Option ℕ) (seen : List Seen) (picked : Pick) (finding : Finding) : Type 0 where
  pub picked_is : finding.picked ≡ picked
  -- the lawful one, which is another, however it is written
  pub lawful_is : finding.lawful ≡ pick_within room head.mechanism head.settings past seen
  pub other : finding.lawful ≢ Some (as_written head.mechanism past picked)
  -- the class of its queue, and how many commands wait in it
  pub class_is : finding.class ≡ option_and_then (λ pick. class_in seen pick.qid) finding.lawful
  pub waiting_is : finding.waiting ≡ option_and_then (λ pick. count_in seen pick.qid) finding.lawful
  pub room_is : finding.room ≡ room
  pub kept_is : Follows head.mechanism head.settings past finding.kept

-- in what a pick differs from the lawful one: the first of these
abbrev pub kind_of : Option Pick → Pick → Kind
kind_of None picked = NothingReady
kind_of (Some lawful) picked = if lawful.qid == picked.qid then (if lawful.n == picked.n then Fresh else Number) else Queue

-- its line, with its number, and what is told of it
pub record Told : Type 0 where
  pub line : ℕ
  pub quoted : List ℕ
  pub finding : Finding

abbrev pub told_of : Difference → Told
told_of d = record { line = d.line; quoted = d.quoted.items; finding = d.finding }

-- the picks that differ, the latest first, where these lines tell events after a history
abbrev pub AreDifferences : Head → History → History → List (ℕ × List ℕ) → List Told → Type 0
AreDifferences head prior [] lines all = all ≡ []
AreDifferences head prior (Changed settings ∷ past) lines all = (line : ℕ × List ℕ) × (earlier : List (ℕ × List ℕ)) × (lines ≡ line ∷ earlier) × AreDifferences head prior past earlier all
AreDifferences head prior (Picked seen pick ∷ past) lines all =
    (line : ℕ × List ℕ) × (earlier : List (ℕ × List ℕ)) × (lines ≡ line ∷ earlier)
    × IsObservation seen × ((IsTakenPick head.mechanism head.settings (past ++ prior) (room_of_line line.1) seen pick × AreDifferences head prior past earlier all)
    ⊎ ((finding : Finding) × (others : List Told) × (all ≡ record { line = line.0; quoted = line.1; finding = finding } ∷ others)
    × IsDifferent head (past ++ prior) (room_of_line line.1) seen pick finding × AreDifferences head prior past earlier others))

-- ---- how many there are of each kind
abbrev pub is_kind : Kind → Kind → Bool
is_kind NothingReady NothingReady = true
is_kind Queue Queue = true
is_kind Number Number = true
is_kind Fresh Fresh = true
is_kind _ _ = false

abbrev pub is_told_as : Kind → Told → ℕ
is_told_as kind told = if is_kind kind (kind_of told.finding.lawful told.finding.picked) then 1 else 0

abbrev pub count_of : Kind → List Told → ℕ
count_of kind [] = 0
count_of kind (told ∷ others) = count_of kind others + is_told_as kind told

pub record AreCounts (counts : Counts) (all : List Told) : Type 0 where
  pub nothing_ready : counts.nothing_ready ≡ count_of NothingReady all
  pub queue : counts.queue ≡ count_of Queue all
  pub number : counts.number ≡ count_of Number all
  pub fresh : counts.fresh ≡ count_of Fresh all

-- none differs
pub record AreNone (counts : Counts) : Type 0 where
  pub nothing_ready : counts.nothing_ready ≡ 0
  pub queue : counts.queue ≡ 0
  pub number : counts.number ≡ 0
  pub fresh : counts.fresh ≡ 0

-- ---- a trace
-- the most picks that are told one by one
abbrev pub most_told : ℕ
most_told = 10

-- what is told of events after a history in these lines: the number of its picks, the first of them that differ, and how many do by kind
pub record IsSurveyOf (head : Head) (prior past : History) (lines : List (ℕ × List ℕ)) (survey : Survey) : Type 0 where
  -- those that differ, the latest first
  pub all : List Told
  pub differences : AreDifferences head prior past lines all
  pub first : map told_of survey.first.items ≡ take most_told (reverse all)
  pub counts : AreCounts survey.counts all
  pub picks : survey.picks ≡ picks_in past

-- what is told of a text that is a head and events. Blank lines don't matter
pub record IsSurvey (text : List ℕ) (survey : Survey) : Type 0 where
  pub head : Head
  pub past : History
  pub prior : History
  pub tells : TellsBy Profile head past (reverse (told_lines text))
  pub begins : BeginsAfter text head prior
  pub told : IsSurveyOf head prior past (reverse (told_lines text)) survey

-- a survey that tells no pick is of a text that the profile allows, with as many picks
abbrev pub LawfulSurveys : Type 0
LawfulSurveys = (text : List ℕ) (survey : Survey) → IsSurvey text survey → AreNone survey.counts → IsLawfulBy Profile text survey.picks
