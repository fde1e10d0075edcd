-- Lines, taken byte by byte.
use Rattle.std.proofs.Common.{◌≡◌, ℕ, ◌+◌, ◌-◌, ◌<◌, ◌≤◌, ◌==◌, Bool, true, false, not, suc, List, [], ◌∷◌, ◌++◌, length, take, drop, get_or, Option, Some, None, refl, sym, ap, subst, ◌∙◌, arith}
use Rattle.std.specs.Prelude.{slice_range}
use Rattle.std.specs.Io.KnownBytes.{Consumes, Keeps, IsAtEnd, prepend_known}
use Rattle.std.proofs.Math.Seq.{drop-cons}
use Rattle.std.proofs.lemmas.Bool.{eq-eqb, eqb-true, true≢false}
use Rattle.nvme_lines.specs.Lines.{with_front, before_lines, lines_of, TakesLine, StartsWithLine, HasNoLine, MatchLine}

-- bytes before the first of some lines
abbrev pub joined : List ℕ → List (List ℕ) → List (List ℕ)
joined [] lines = lines
joined (x ∷ xs) lines = with_front x (joined xs lines)

pub joined_more : (front : List ℕ) (x : ℕ) (lines : List (List ℕ)) → joined front (with_front x lines) ≡ joined (front ++ x ∷ []) lines
joined_more [] x lines = refl
joined_more (y ∷ ys) x lines = ap (with_front y) (joined_more ys x lines)

-- a newline ends them
pub joined_ends : (front : List ℕ) (lines : List (List ℕ)) → joined front ([] ∷ lines) ≡ front ∷ lines
joined_ends [] lines = refl
joined_ends (y ∷ ys) lines = ap (with_front y) (joined_ends ys lines)

-- and so does the end of the text
pub joined_last : (y : ℕ) (ys : List ℕ) → joined (y ∷ ys) [] ≡ (y ∷ ys) ∷ []
joined_last y [] = refl
joined_last y (z ∷ zs) = ap (with_front y) (joined_last z zs)

-- a line that begins with some bytes is as long at least
pub record IsLonger (front : List ℕ) (lines : List (List ℕ)) : Type 0 where
  pub line : List ℕ
  pub rest : List (List ℕ)
  pub is : joined front lines ≡ line ∷ rest
  pub long : length front ≤ length line

longer_front : (y : ℕ) (ys : List ℕ) (lines : List (List ℕ)) → IsLonger ys lines → IsLonger (y ∷ ys) lines
longer_front y ys lines h = record { line = y ∷ h.line; rest = h.rest; is = ap (with_front y) h.is; long = let l : length ys ≤ length h.line = h.long in omega arith }

pub longer : (y : ℕ) (ys : List ℕ) (lines : List (List ℕ)) → IsLonger (y ∷ ys) lines
longer y [] [] = record { line = y ∷ []; rest = []; is = refl; long = omega arith }
longer y [] (line ∷ lines) = record { line = y ∷ line; rest = lines; is = refl; long = omega arith }
longer y (z ∷ zs) lines = longer_front y (z ∷ zs) lines (longer z zs lines)

-- ---- known bytes

-- the known lines are some bytes before those that are left
abbrev pub Joins : List ℕ → Option (List ℕ) → Option (List ℕ) → Type 0
Joins front None new = Unit {0}
Joins front (Some xs) None = ⊥
Joins front (Some xs) (Some ys) = lines_of xs ≡ joined front (lines_of ys)

-- one byte more that is no newline
pub joins_more : (front : List ℕ) (a b c : Option (List ℕ)) (x : ℕ) → Joins front a b → Consumes b c (x ∷ []) → (x == 10) ≡ false → Joins (front ++ x ∷ []) a c
joins_more front None b c x p q e = tt
joins_more front (Some xs) None c x p q e = absurd p
joins_more front (Some xs) (Some ys) None x p q e = absurd q
joins_more front (Some xs) (Some ys) (Some zs) x p q e =
    p ∙ ap (joined front) (ap lines_of q ∙ ap (λ b. before_lines b x (lines_of zs)) e) ∙ joined_more front x (lines_of zs)

-- a newline
pub joins_newline : (front : List ℕ) (a b c : Option (List ℕ)) (x : ℕ) → Joins front a b → Consumes b c (x ∷ []) → (x == 10) ≡ true → TakesLine (λ l. l ≡ front) a c
joins_newline front None b c x p q e = tt
joins_newline front (Some xs) None c x p q e = absurd p
joins_newline front (Some xs) (Some ys) None x p q e = absurd q
joins_newline front (Some xs) (Some ys) (Some zs) x p q e =
    (front, p ∙ ap (joined front) (ap lines_of q ∙ ap (λ b. before_lines b x (lines_of zs)) e) ∙ joined_ends front (lines_of zs), refl)

-- the end of the text after some bytes
pub joins_last : (y : ℕ) (ys : List ℕ) (a b c : Option (List ℕ)) → Joins (y ∷ ys) a b → IsAtEnd b → Keeps b c → TakesLine (λ l. l ≡ y ∷ ys) a c
joins_last y ys None b c p q k = tt
joins_last y ys (Some xs) None c p q k = absurd p
joins_last y ys (Some xs) (Some zs) None p q k = absurd k
joins_last y ys (Some xs) (Some zs) (Some ws) p q k =
    let none : lines_of ws ≡ [] = ap lines_of (k ∙ q) in
    (y ∷ ys, p ∙ ap (λ b. joined (y ∷ ys) (lines_of b)) q ∙ joined_last y ys ∙ ap (λ (l : List (List ℕ)). (y ∷ ys) ∷ l) (sym none), refl)

-- the end of the text
pub joins_end : (a b : Option (List ℕ)) → Joins [] a b → IsAtEnd b → HasNoLine a
joins_end None b p q = tt
joins_end (Some xs) None p q = absurd p
joins_end (Some xs) (Some ys) p q = p ∙ ap lines_of q

pub joins_long : (most : ℕ) (front : List ℕ) (a b : Option (List ℕ)) → Joins front a b → most < length front → StartsWithLine (λ l. most < length l) a
joins_long most front None b p h = tt
joins_long most front (Some xs) None p h = absurd p
joins_long most [] (Some xs) (Some ys) p h = absurd (omega arith)
joins_long most (z ∷ zs) (Some xs) (Some ys) p h =
    let l = longer z zs (lines_of ys) in
    let long : length (z ∷ zs) ≤ length l.line = l.long in
    (l.line, l.rest, p ∙ l.is, omega arith)

-- where the text ends
pub last_line : (empty : Bool) (line : List ℕ) (a b c : Option (List ℕ)) → empty ≡ (length line == 0) → Joins line a b → IsAtEnd b → Keeps b c → MatchLine (not empty) line a c
last_line true [] a b c e p q k = joins_end a b p q
last_line false [] a b c e p q k = absurd (true≢false (sym (eq-eqb (length {A = ℕ} []) 0 refl) ∙ sym e))
last_line true (y ∷ ys) a b c e p q k = let z : length (y ∷ ys) ≡ 0 = eqb-true (length (y ∷ ys)) 0 (sym e) in absurd (omega arith)
last_line false (y ∷ ys) a b c e p q k = joins_last y ys a b c p q k

-- ---- the bytes of a chunk

range_first : (xs : List ℕ) (a b d : ℕ) → a < b → b ≤ length xs → slice_range xs a b ≡ get_or xs a d ∷ slice_range xs (a + 1) b
range_first xs a b d lt le =
    let inside : a < length xs = omega arith in
    let more : b - a ≡ suc (b - (a + 1)) = omega arith in
    let next : suc a ≡ a + 1 = omega arith in
    let split : drop a xs ≡ get_or xs a d ∷ drop (a + 1) xs = subst (λ (k : ℕ). drop a xs ≡ get_or xs a d ∷ drop k xs) next (drop-cons xs a d inside) in
    ap (take (b - a)) split ∙ ap (λ (k : ℕ). take k (get_or xs a d ∷ drop (a + 1) xs)) more

takes_first : (known : Option (List ℕ)) (front rest : List ℕ) (x : ℕ) → front ≡ x ∷ rest → Consumes (prepend_known front known) (prepend_known rest known) (x ∷ [])
takes_first None front rest x e = tt
takes_first (Some ys) front rest x e = ap (λ (l : List ℕ). l ++ ys) e

pub takes_byte : (known : Option (List ℕ)) (xs : List ℕ) (a b x : ℕ) → a < b → b ≤ length xs → x ≡ get_or xs a x → Consumes (prepend_known (slice_range xs a b) known) (prepend_known (slice_range xs (a + 1) b) known) (x ∷ [])
takes_byte known xs a b x lt le is = takes_first known _ _ x (range_first xs a b x lt le ∙ ap (λ (y : ℕ). y ∷ slice_range xs (a + 1) b) (sym is))

-- what is kept twice is kept
pub keeps_keeps : (a b c : Option (List ℕ)) → Keeps a b → Keeps b c → Keeps a c
keeps_keeps None b c p q = tt
keeps_keeps (Some xs) None c p q = absurd p
keeps_keeps (Some xs) (Some ys) None p q = absurd q
keeps_keeps (Some xs) (Some ys) (Some zs) p q = q ∙ p

pub keeps_consumes : (a b c : Option (List ℕ)) (bs : List ℕ) → Keeps a b → Consumes b c bs → Consumes a c bs
keeps_consumes None b c bs k p = tt
keeps_consumes (Some xs) None c bs k p = absurd k
keeps_consumes (Some xs) (Some ys) None bs k p = absurd p
keeps_consumes (Some xs) (Some ys) (Some zs) bs k p = sym k ∙ p
