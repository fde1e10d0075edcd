-- One more queue beside those of which it is known what they ask for.
use Rattle.std.proofs.Common.{◌≡◌, ℕ, ◌+◌, min, List, [], ◌∷◌, ◌++◌, Option, Some, None, sum, unwrap_or, refl, ap, sym, ◌∙◌, arith, append-nil}
use Rattle.std.specs.List.{filter_map, cons_option}
use Rattle.std.proofs.lemmas.List.Elements.{filter_map-append}
use Rattle.std.proofs.lemmas.List.Sums.{sum_by_push}
use Rattle.nvme_model_form.specs.Views.{Asking}
use Rattle.nvme_simulate.specs.Loads.{cut_off, offered_by, offered_in, total_of}

cut_twice : (most a b : ℕ) → min (min a most + b) most ≡ min (a + b) most
cut_twice most a b = omega arith

total_with : (xs : List ℕ) (x : ℕ) → total_of (xs ++ x ∷ []) ≡ Some (cut_off (unwrap_or (total_of xs) 0 + x))
total_with [] x = refl
total_with (y ∷ ys) x = ap Some (ap cut_off (sum_by_push (λ (n : ℕ). n) (y ∷ ys) x) ∙ sym (cut_twice 0xffff_ffff_ffff_ffff_ffff_ffff_ffff_ffff (sum (y ∷ ys)) x))

-- what the queues ask for, and what one more does
asked_with : (parts : ℕ) (queues : List Asking) (queue : Asking)
    → offered_in parts (queues ++ queue ∷ []) ≡ total_of (filter_map (offered_by parts) queues ++ cons_option (offered_by parts queue) [])
asked_with parts queues queue = ap total_of (filter_map-append (offered_by parts) queues (queue ∷ []))

-- one that is open
pub offered_with : (parts : ℕ) (queues : List Asking) (queue : Asking) (sum new : Option ℕ) (before offered all : ℕ) → sum ≡ offered_in parts queues → Some offered ≡ offered_by parts queue
    → before ≡ unwrap_or sum 0 → all ≡ cut_off (before + offered) → new ≡ Some all → new ≡ offered_in parts (queues ++ queue ∷ [])
offered_with parts queues queue sum new before offered all sum_is offered_is before_is all_is is =
    is ∙ ap Some (all_is ∙ ap (λ n. cut_off (n + offered)) (before_is ∙ ap (λ o. unwrap_or o 0) sum_is))
    ∙ sym (total_with (filter_map (offered_by parts) queues) offered)
    ∙ ap (λ o. total_of (filter_map (offered_by parts) queues ++ cons_option o [])) offered_is
    ∙ sym (asked_with parts queues queue)

-- one that isn't
pub offered_without : (parts : ℕ) (queues : List Asking) (queue : Asking) (sum new : Option ℕ) → sum ≡ offered_in parts queues → offered_by parts queue ≡ None → new ≡ sum
    → new ≡ offered_in parts (queues ++ queue ∷ [])
offered_without parts queues queue sum new sum_is none is =
    is ∙ sum_is ∙ ap total_of (sym (append-nil (filter_map (offered_by parts) queues)))
    ∙ ap (λ o. total_of (filter_map (offered_by parts) queues ++ cons_option o [])) (sym none)
    ∙ sym (asked_with parts queues queue)
