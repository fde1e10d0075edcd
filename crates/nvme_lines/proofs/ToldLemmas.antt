-- Lines that aren't blank.
use Rattle.std.proofs.Common.{◌≡◌, ℕ, ◌+◌, ◌<◌, ◌≤◌, ◌&&◌, leb, Bool, true, false, List, ◌∷◌, length, Option, Some, None, refl, sym, ap, ◌∙◌}
use Rattle.std.specs.Prelude.{if◌then◌else◌}
use Rattle.std.specs.List.{list_all}
use Rattle.std.proofs.lemmas.Bool.{le-leb, lt-leb}
use Rattle.nvme_lines.specs.Lines.{longest_line, is_space, is_blank, numbered, PassesBlank, MeetsError, MeetsTold}
use Rattle.nvme_lines.specs.declared.lines.NextError.{NextError}
use Rattle.nvme_lines.specs.declared.lines.NextError.TheVariants.{TooLong, Read, NoMemory}

-- ---- blank lines
and_true : (b : Bool) → (b && true) ≡ b
and_true true = refl
and_true false = refl

and_false : (b : Bool) → (b && false) ≡ false
and_false true = refl
and_false false = refl

-- a line that is short enough is blank where it is white space
pub short_blank : (line : List ℕ) → length line ≤ longest_line → list_all is_space line ≡ is_blank line
short_blank line h =
    let short : leb (length line) longest_line ≡ true = le-leb _ _ h in
    sym (ap (λ (b : Bool). list_all is_space line && b) short ∙ and_true (list_all is_space line))

-- a line that is too long isn't blank
long_blank : (line : List ℕ) → longest_line < length line → is_blank line ≡ false
long_blank line h =
    let long : leb (length line) longest_line ≡ false = lt-leb _ _ h in
    ap (λ (b : Bool). list_all is_space line && b) long ∙ and_false (list_all is_space line)

told_first : (m : ℕ) (line : List ℕ) (lines : List (List ℕ)) → is_blank line ≡ false → numbered m (line ∷ lines) ≡ (m + 1, line) ∷ numbered (m + 1) lines
told_first m line lines told = ap (λ (b : Bool). if b then numbered (m + 1) lines else (m + 1, line) ∷ numbered (m + 1) lines) told

-- what the next line meets after blank ones
pub meets_passed : (e : NextError) (m n : ℕ) (a b : Option (List ℕ)) → PassesBlank m a n b → MeetsError e b → MeetsTold e m a (n + 1)
meets_passed TooLong m n None b p s = tt
meets_passed TooLong m n (Some xs) None p s = absurd p
meets_passed TooLong m n (Some xs) (Some ys) p (l, rest, split, long) = (l, numbered (n + 1) rest, p.0 ∙ (ap (numbered n) split ∙ told_first n l rest (long_blank l long)), long)
meets_passed Read m n a b p s = tt
meets_passed NoMemory m n a b p s = tt
