-- The completions that a log posts for a place.
use Rattle.std.proofs.Common.{◌≡◌, ℕ, ◌+◌, ◌-◌, ◌<◌, ◌≤◌, ◌==◌, ◌&&◌, Bool, true, false, if◌then◌else◌, List, [], ◌∷◌, ◌++◌, length, reverse, take, drop, get_or, Option, Some, None, MatchOption, sym, ◌∙◌, ap, arith, refl, eq-eqb}
use Rattle.std.specs.List.{flat_map}
use Rattle.std.proofs.lemmas.List.{append-nil, take-append-drop, take_rest, length-append, reverse-append}
use Rattle.std.proofs.lemmas.List.Concat.{flat_map-append}
use Rattle.nvme_entry.specs.declared.completion.Cqe.{Cqe}
use Rattle.nvme_log.specs.declared.event.Event.{Event}
use Rattle.nvme_log.specs.declared.event.Event.TheVariants.{Post}
use Rattle.nvme_log.specs.Rules.{Past}
use Rattle.nvme_log.specs.Completions.{posts_of}
use Rattle.nvme_report.specs.Report.{completion_in, completions_of}
use Rattle.nvme_report.specs.inside.Tallies.{IsFirst}
use Rattle.nvme_output.proofs.Items.{flat_map_at}

-- a Post of the place holds its completion
pub completion_is : (r i c region index : ℕ) (cqe : Cqe) → region ≡ r → index ≡ i → completion_in r i (Post c region index cqe) ≡ cqe ∷ []
completion_is r i c region index cqe e f = rw (eq-eqb region r e, eq-eqb index i f) refl

-- the first event with a completion has the first completion
pub first_at : (events : List Event) (r i k : ℕ) (d : Event) (cqe : Cqe) → k < length events → completions_of (take k events) r i ≡ []
    → completion_in r i (get_or events k d) ≡ cqe ∷ [] → IsFirst cqe (completions_of events r i)
first_at events r i k d cqe l none here = (
  flat_map (completion_in r i) (drop (k + 1) events),
  flat_map_at (completion_in r i) events k d l
      ∙ (ap (λ (v : List Cqe). v ++ (completion_in r i (get_or events k d) ++ flat_map (completion_in r i) (drop (k + 1) events))) none
      ∙ ap (λ (v : List Cqe). v ++ flat_map (completion_in r i) (drop (k + 1) events)) here),
)

-- a list of at most one
at_most_one : {A : Type 0} (x : A) (rest : List A) → length (x ∷ rest) ≤ 1 → x ∷ rest ≡ x ∷ []
at_most_one x [] l = refl
at_most_one x (y ∷ rest) l = absurd (omega arith)

-- a list of at most one whose back has a first
only_back : {A : Type 0} (prefix back : List A) (x : A) → length (prefix ++ back) ≤ 1 → IsFirst x back → prefix ++ back ≡ x ∷ []
only_back [] back x l (rest, e) = e ∙ at_most_one x rest (rw e at l)
only_back (y ∷ ys) back x l (rest, e) = absurd (omega (arith, length-append ys back, ap length e))

-- a list of at most one whose prefix has a first
only_prefix : {A : Type 0} (prefix back : List A) (x : A) → length (prefix ++ back) ≤ 1 → IsFirst x prefix → prefix ++ back ≡ x ∷ []
only_prefix [] back x l (rest, e) = cc
only_prefix (y ∷ ys) back x l (rest, e) = at_most_one y (ys ++ back) l ∙ cc

-- a log from some event on, and before it
pub completions_split : (log : List Event) (r i n : ℕ) → completions_of log r i ≡ completions_of (take n log) r i ++ completions_of (drop n log) r i
completions_split log r i n = ap (λ (v : List Event). completions_of v r i) (sym (take-append-drop n log)) ∙ flat_map-append (completion_in r i) (take n log) (drop n log)

-- the one completion of a place is posted from some event on
pub posted_after : (log : List Event) (r i n : ℕ) (cqe : Cqe) → length (completions_of log r i) ≤ 1
    → IsFirst cqe (completions_of (take (length log - n) (drop n log)) r i) → completions_of log r i ≡ cqe ∷ []
posted_after log r i n cqe l first =
    let e = completions_split log r i n in
    e ∙ only_back (completions_of (take n log) r i) (completions_of (drop n log) r i) cqe (rw e at l) (rw (take_rest log n) at first)

-- no completion of a place is posted from some event on: it was posted before it, or it wasn't
pub posted_before : {F : Type 0} (cqe_of : F → Cqe) (result : Option F) (log : List Event) (r i n : ℕ) → length (completions_of log r i) ≤ 1
    → completions_of (take (length log - n) (drop n log)) r i ≡ []
    → MatchOption result (completions_of (take n log) r i ≡ []) (λ found. IsFirst (cqe_of found) (completions_of (take n log) r i))
    → MatchOption result (completions_of log r i ≡ []) (λ found. completions_of log r i ≡ cqe_of found ∷ [])
posted_before cqe_of None log r i n l none h =
    completions_split log r i n ∙ (ap (λ (v : List Cqe). v ++ completions_of (drop n log) r i) h ∙ rw (take_rest log n) at none)
posted_before cqe_of (Some found) log r i n l none h =
    let e = completions_split log r i n in
    e ∙ only_prefix (completions_of (take n log) r i) (completions_of (drop n log) r i) (cqe_of found) (rw e at l) h

-- one post more or not
more_posts : (b : Bool) (m n k : ℕ) → m ≡ n + k → (if b then m + 1 else m) ≡ (if b then n + 1 else n) + k
more_posts true m n k e = omega arith
more_posts false m n k e = e

-- the posts of two logs
pub posts_append : (xs ys : Past) (r i : ℕ) → posts_of (xs ++ ys) r i ≡ posts_of xs r i + posts_of ys r i
posts_append [] ys r i = omega arith
posts_append (Post c region index cqe ∷ xs) ys r i =
    more_posts (region == r && index == i) (posts_of (xs ++ ys) r i) (posts_of xs r i) (posts_of ys r i) (posts_append xs ys r i)
posts_append (e ∷ xs) ys r i = posts_append xs ys r i

-- one completion or none
one_post : (b : Bool) (cqe : Cqe) → length (if b then cqe ∷ [] else []) ≡ (if b then 0 + 1 else 0)
one_post true cqe = refl
one_post false cqe = refl

-- the posts of one event are its completions
posts_in : (e : Event) (r i : ℕ) → length (completion_in r i e) ≡ posts_of (e ∷ []) r i
posts_in (Post c region index cqe) r i = one_post (region == r && index == i) cqe
posts_in e r i = refl

-- a log has as many completions of a place as posts of it
pub completions_are_posts : (log : List Event) (r i : ℕ) → length (completions_of log r i) ≡ posts_of (reverse log) r i
completions_are_posts [] r i = refl
completions_are_posts (e ∷ log) r i =
    length-append (completion_in r i e) (completions_of log r i)
    ∙ (ap (λ (v : ℕ). v + length (completions_of log r i)) (posts_in e r i)
    ∙ (ap (λ (v : ℕ). posts_of (e ∷ []) r i + v) (completions_are_posts log r i)
    ∙ sym (ap (λ (v : Past). posts_of v r i) (reverse-append (e ∷ []) log) ∙ posts_append (reverse log) (e ∷ []) r i ∙ omega arith)))

-- the lines of a place are that of its one completion
pub one_line : (text : Cqe → List ℕ) (log : List Event) (r i : ℕ) (cqe : Cqe) → completions_of log r i ≡ cqe ∷ [] → flat_map text (completions_of log r i) ≡ text cqe
one_line text log r i cqe e = ap (λ (v : List Cqe). flat_map text v) e ∙ append-nil (text cqe)

-- a place with no completion has no line
pub no_line : (text : Cqe → List ℕ) (log : List Event) (r i : ℕ) → completions_of log r i ≡ [] → flat_map text (completions_of log r i) ≡ []
no_line text log r i e = ap (λ (v : List Cqe). flat_map text v) e
