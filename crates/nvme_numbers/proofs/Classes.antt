-- Rows of the classes that have a queue.
use Rattle.std.proofs.Common.{◌≡◌, ◌∙◌, ℕ, ◌+◌, ◌<◌, Bool, true, false, cond, List, [], ◌∷◌, ◌++◌, filter, get_or, length, map, take, ap, sym}
use Rattle.std.proofs.lemmas.List.{append-nil, map-append}
use Rattle.std.proofs.lemmas.List.Elements.{filter_more}
use Rattle.nvme_arbiter.specs.declared.settings.Class.{Class}
use Rattle.nvme_numbers.specs.declared.answer.Member.{Member}

abbrev pub class_in : Member → Class
class_in m = m.class

-- one class more that has a queue
pub told_more : (has : Class → Bool) (classes : List Class) (rows next : List Member) (i : ℕ) (d : Class) (m : Member) → i < length classes
    → m.class ≡ get_or classes i d → has (get_or classes i d) ≡ true → next ≡ rows ++ m ∷ [] → map class_in rows ≡ filter has (take i classes)
    → map class_in next ≡ filter has (take (i + 1) classes)
told_more has classes rows next i d m l at passes so same =
    let past = filter has (take i classes) in
    let left : map class_in next ≡ map class_in rows ++ m.class ∷ [] = ap (λ (v : List Member). map class_in v) so ∙ map-append class_in rows (m ∷ []) in
    let right : filter has (take (i + 1) classes) ≡ past ++ get_or classes i d ∷ [] =
    filter_more has classes i d l ∙ ap (λ (b : Bool). past ++ cond b (get_or classes i d ∷ []) []) passes in
    left ∙ (ap (λ (v : List Class). v ++ m.class ∷ []) same ∙ (ap (λ (v : Class). past ++ v ∷ []) at ∙ sym right))

-- one that has none
pub passed_more : (has : Class → Bool) (classes : List Class) (i : ℕ) (d : Class) → i < length classes → has (get_or classes i d) ≡ false
    → filter has (take i classes) ≡ filter has (take (i + 1) classes)
passed_more has classes i d l fails =
    let past = filter has (take i classes) in
    sym (filter_more has classes i d l ∙ (ap (λ (b : Bool). past ++ cond b (get_or classes i d ∷ []) []) fails ∙ append-nil past))
