-- Known bytes that are taken from a reader in two parts.
use Rattle.std.proofs.Common.{◌≡◌, ℕ, ◌+◌, ◌≤◌, List, [], ◌++◌, length, Option, None, Some, IfSome, sym, ap, ◌∙◌, arith}
use Rattle.std.specs.Io.KnownBytes.{Consumes, IsAtEnd, Keeps}
use Rattle.std.proofs.lemmas.List.{append-nil, length-append}

-- no more was taken than was there
pub taken_within : (a b c : Option (List ℕ)) (xs ys : List ℕ) (n : ℕ) → Consumes a b xs → Consumes b c ys → n ≤ length xs + length ys → IfSome a (λ rest. n ≤ length rest)
taken_within None b c xs ys n first second few = tt
taken_within (Some rest) None c xs ys n first second few = absurd first
taken_within (Some rest) (Some more) None xs ys n first second few = absurd second
taken_within (Some rest) (Some more) (Some end) xs ys n first second few =
    let all = ap length first ∙ length-append xs more in
    let then = ap length second ∙ length-append ys end in
    omega (arith, all, then, few)

-- the same of one part
pub first_within : (a b : Option (List ℕ)) (xs : List ℕ) (n : ℕ) → Consumes a b xs → n ≤ length xs → IfSome a (λ rest. n ≤ length rest)
first_within None b xs n first few = tt
first_within (Some rest) None xs n first few = absurd first
first_within (Some rest) (Some more) xs n first few =
    let all = ap length first ∙ length-append xs more in
    omega (arith, all, few)

-- where nothing is given at the end, all was taken
pub all_taken : (a b c : Option (List ℕ)) (xs ys : List ℕ) → Consumes a b xs → Consumes b c ys → ys ≡ [] → IsAtEnd c → IfSome a (λ rest. xs ≡ rest)
all_taken None b c xs ys first second none end = tt
all_taken (Some rest) None c xs ys first second none end = absurd first
all_taken (Some rest) (Some more) None xs ys first second none end = absurd second
all_taken (Some rest) (Some more) (Some left) xs ys first second none end =
    sym (first ∙ ap (λ zs. xs ++ zs) (second ∙ (λ i. none i ++ end i)) ∙ append-nil xs)
