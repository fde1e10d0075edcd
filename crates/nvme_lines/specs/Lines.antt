-- The lines of a text: they end with a newline, the last one maybe without. (profile)
use Rattle.std.specs.Prelude.{◌≡◌, ℕ, ◌+◌, ◌<◌, ◌==◌, ◌&&◌, ◌||◌, Bool, true, false, nat_le, if◌then◌else◌, List, [], ◌∷◌, length, slice_range, Option, Some, None}
use Rattle.std.specs.List.{list_all}
use Rattle.std.specs.Io.KnownBytes.{prepend_known}
use Rattle.nvme_lines.specs.declared.lines.Lines.{Lines}
use Rattle.nvme_lines.specs.declared.lines.NextError.{NextError}
use Rattle.nvme_lines.specs.declared.lines.NextError.TheVariants.{TooLong, Read, NoMemory}

-- the most bytes of a line, its newline aside
abbrev pub longest_line : ℕ
longest_line = 4096

-- a byte before the first of some lines
abbrev pub with_front : ℕ → List (List ℕ) → List (List ℕ)
with_front x [] = (x ∷ []) ∷ []
with_front x (line ∷ lines) = (x ∷ line) ∷ lines

abbrev pub before_lines : Bool → ℕ → List (List ℕ) → List (List ℕ)
before_lines true x lines = [] ∷ lines
before_lines false x lines = with_front x lines

abbrev pub lines_of : List ℕ → List (List ℕ)
lines_of [] = []
lines_of (x ∷ xs) = before_lines (x == 10) x (lines_of xs)

-- white space within a line, as JSON has it: a space, a tab or a carriage return
abbrev pub is_space : ℕ → Bool
is_space x = (x == 32) || ((x == 9) || (x == 13))

-- a line of white space alone says nothing, unless it is too long
abbrev pub is_blank : List ℕ → Bool
is_blank line = list_all is_space line && nat_le (length line) longest_line

-- the lines that aren't blank, each behind its number, where this many lines stand before them
abbrev pub numbered : ℕ → List (List ℕ) → List (ℕ × List ℕ)
numbered n [] = []
numbered n (line ∷ lines) = if is_blank line then numbered (n + 1) lines else (n + 1, line) ∷ numbered (n + 1) lines

-- those of a text
abbrev pub told_lines : List ℕ → List (ℕ × List ℕ)
told_lines text = numbered 0 (lines_of text)

-- the bytes of the text that are not taken yet, where they are known
abbrev pub unread : {R : Type 0} → (R → Option (List ℕ)) → Lines R → Option (List ℕ)
unread remaining lines = prepend_known (slice_range lines.chunk lines.start lines.end) (remaining lines.reader)

-- a text of which some lines were read: the bytes that are left, where they are known, the number of those lines, and the latest one
pub record ToldView : Type 0 where
  pub rest : Option (List ℕ)
  pub number : ℕ
  pub latest : List ℕ

-- the first of the known lines is taken
abbrev pub TakesLine : (List ℕ → Type 0) → Option (List ℕ) → Option (List ℕ) → Type 0
TakesLine P None new = Unit {0}
TakesLine P (Some xs) None = ⊥
TakesLine P (Some xs) (Some ys) = (line : List ℕ) × (lines_of xs ≡ line ∷ lines_of ys) × P line

-- the first of the known lines is of this kind
abbrev pub StartsWithLine : (List ℕ → Type 0) → Option (List ℕ) → Type 0
StartsWithLine P None = Unit {0}
StartsWithLine P (Some xs) = (line : List ℕ) × (rest : List (List ℕ)) × (lines_of xs ≡ line ∷ rest) × P line

-- no line is left
abbrev pub HasNoLine : Option (List ℕ) → Type 0
HasNoLine None = Unit {0}
HasNoLine (Some xs) = lines_of xs ≡ []

abbrev pub MatchLine : Bool → List ℕ → Option (List ℕ) → Option (List ℕ) → Type 0
MatchLine true line old new = TakesLine (λ l. l ≡ line) old new
MatchLine false line old new = HasNoLine old

-- after m lines the next one of the known lines that isn't blank is taken, which is number n, and of this kind
abbrev pub TakesTold : (List ℕ → Type 0) → ℕ → Option (List ℕ) → ℕ → Option (List ℕ) → Type 0
TakesTold P m None n new = Unit {0}
TakesTold P m (Some xs) n None = ⊥
TakesTold P m (Some xs) n (Some ys) =
    (line : List ℕ) × (numbered m (lines_of xs) ≡ (n, line) ∷ numbered n (lines_of ys)) × P line × (m + length (lines_of xs) ≡ n + length (lines_of ys))

-- after m lines the next one of the known lines that isn't blank is number n, and of this kind
abbrev pub StartsTold : (List ℕ → Type 0) → ℕ → Option (List ℕ) → ℕ → Type 0
StartsTold P m None n = Unit {0}
StartsTold P m (Some xs) n = (line : List ℕ) × (rest : List (ℕ × List ℕ)) × (numbered m (lines_of xs) ≡ (n, line) ∷ rest) × P line

-- only blank lines are left
abbrev pub HasNoTold : ℕ → Option (List ℕ) → Type 0
HasNoTold m None = Unit {0}
HasNoTold m (Some xs) = numbered m (lines_of xs) ≡ []

-- after m lines there are n known ones
abbrev pub AreInAll : ℕ → Option (List ℕ) → ℕ → Type 0
AreInAll m None n = Unit {0}
AreInAll m (Some xs) n = n ≡ m + length (lines_of xs)

abbrev pub MatchTold : Bool → List ℕ → ℕ → Option (List ℕ) → ℕ → Option (List ℕ) → Type 0
MatchTold true line m old n new = TakesTold (λ l. l ≡ line) m old n new
MatchTold false line m old n new = HasNoTold m old × AreInAll m old n

-- after m and after n lines the same lines are left that aren't blank
abbrev pub PassesBlank : ℕ → Option (List ℕ) → ℕ → Option (List ℕ) → Type 0
PassesBlank m None n new = Unit {0}
PassesBlank m (Some xs) n None = ⊥
PassesBlank m (Some xs) n (Some ys) = (numbered m (lines_of xs) ≡ numbered n (lines_of ys)) × (m + length (lines_of xs) ≡ n + length (lines_of ys))

-- why there is no next line: a line that is too long, or what the text doesn't tell
abbrev pub MeetsError : NextError → Option (List ℕ) → Type 0
MeetsError TooLong old = StartsWithLine (λ line. longest_line < length line) old
MeetsError Read old = Unit {0}
MeetsError NoMemory old = Unit {0}

-- the same of the next line that isn't blank, after m lines: it is number n
abbrev pub MeetsTold : NextError → ℕ → Option (List ℕ) → ℕ → Type 0
MeetsTold TooLong m old n = StartsTold (λ line. longest_line < length line) m old n
MeetsTold Read m old n = Unit {0}
MeetsTold NoMemory m old n = Unit {0}
