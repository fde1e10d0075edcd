-- Written lines are short and plain.
use Rattle.std.proofs.Common.{◌≡◌, ℕ, ◌+◌, ◌*◌, ◌<◌, ◌≤◌, nat_le, Bool, true, false, List, [], ◌∷◌, ◌++◌, length, decimal, refl, arith, length-append}
use Rattle.std.specs.Prelude.{codes, All}
use Rattle.std.specs.List.{concat, flat_map}
use Rattle.std.proofs.lemmas.Bool.{leb-true}
use Rattle.std.proofs.lemmas.Fmt.{length-decimal-le}
use Rattle.std.proofs.lemmas.List.Elements.{All-head, All-tail}
use Rattle.nvme_arbiter.specs.Settings.{ArbitrationFields, FitsFields, cdw11_of}
use Rattle.nvme_arbiter.specs.Observation.{IsSeen}
use Rattle.nvme_arbiter.specs.declared.settings.Class.{Class}
use Rattle.nvme_arbiter.specs.declared.settings.Class.TheVariants.{Admin, Urgent, High, Medium, Low}
use Rattle.nvme_arbiter.specs.declared.settings.Mechanism.{Mechanism}
use Rattle.nvme_arbiter.specs.declared.settings.Mechanism.TheVariants.{RoundRobin, Weighted}
use Rattle.nvme_arbiter.specs.declared.pick.Seen.{Seen}
use Rattle.nvme_arbiter.specs.declared.pick.Pick.{Pick}
use Rattle.nvme_trace.specs.Names.{class_text, mechanism_text}
use Rattle.nvme_tracer.specs.Text.{text_of_queue, text_of_next, text_of_seen, text_of_flag, text_before_seen}
use Rattle.nvme_tracer.proofs.PlainLines.{is_plain, plain-append, plain_decimal}
use Rattle.nvme_tracer.proofs.WrittenJson.{head_bytes, set_bytes, pick_bytes}

-- plain bytes, at most this many
pub record IsShort (most : ℕ) (xs : List ℕ) : Type 0 where
  pub plain : is_plain xs ≡ true
  pub short : length xs ≤ most

-- two pieces
both : (m n : ℕ) (xs ys : List ℕ) → IsShort m xs → IsShort n ys → IsShort (m + n) (xs ++ ys)
both m n xs ys a b =
    let p : length xs ≤ m = a.short in
    let q : length ys ≤ n = b.short in
    record { plain = plain-append xs ys a.plain b.plain; short = omega (arith, length-append xs ys) }

pub longer : (m n : ℕ) (xs : List ℕ) → m ≤ n → IsShort m xs → IsShort n xs
longer m n xs le a = let p : length xs ≤ m = a.short in record { plain = a.plain; short = omega arith }

literal : (n : ℕ) (xs : List ℕ) → is_plain xs ≡ true → nat_le (length xs) n ≡ true → IsShort n xs
literal n xs p l = record { plain = p; short = leb-true (length xs) n l }

short_number : (n : ℕ) → n < 65536 → IsShort 5 (decimal n)
short_number n h = record { plain = plain_decimal n (omega arith); short = length-decimal-le 5 n (omega arith) (omega arith) (omega arith) }

short_cdw11 : (n : ℕ) → n < 4294967296 → IsShort 10 (decimal n)
short_cdw11 n h = record { plain = plain_decimal n (omega arith); short = length-decimal-le 10 n (omega arith) (omega arith) (omega arith) }

nothing : IsShort 0 []
nothing = literal 0 [] refl refl

short_class : (class : Class) → IsShort 6 (class_text class)
short_class Admin = literal 6 _ refl refl
short_class Urgent = literal 6 _ refl refl
short_class High = literal 6 _ refl refl
short_class Medium = literal 6 _ refl refl
short_class Low = literal 6 _ refl refl

short_mechanism : (mechanism : Mechanism) → IsShort 11 (mechanism_text mechanism)
short_mechanism RoundRobin = literal 11 _ refl refl
short_mechanism Weighted = literal 11 _ refl refl

short_flag : (flag : Bool) → IsShort 5 (text_of_flag flag)
short_flag true = literal 5 _ refl refl
short_flag false = literal 5 _ refl refl

-- pieces, each with its greatest number of bytes
abbrev total : List ℕ → ℕ
total [] = 0
total (n ∷ ns) = n + total ns

abbrev AreShort : List ℕ → List (List ℕ) → Type 0
AreShort [] [] = Unit {0}
AreShort [] (xs ∷ xss) = ⊥
AreShort (n ∷ ns) [] = ⊥
AreShort (n ∷ ns) (xs ∷ xss) = IsShort n xs × AreShort ns xss

pieces : (ns : List ℕ) (xss : List (List ℕ)) → AreShort ns xss → IsShort (total ns) (concat xss)
pieces [] [] h = nothing
pieces [] (xs ∷ xss) h = absurd h
pieces (n ∷ ns) [] h = absurd h
pieces (n ∷ ns) (xs ∷ xss) h = both n (total ns) xs (concat xss) h.0 (pieces ns xss h.1)

-- ---- lines
pub cdw11_small : (s : ArbitrationFields) → FitsFields s → cdw11_of s < 4294967296
cdw11_small s f = omega (arith, f.burst_code, f.low, f.medium, f.high)

pub short_head : (mechanism : Mechanism) (settings : ArbitrationFields) → FitsFields settings → IsShort 4096 (head_bytes mechanism settings)
short_head mechanism settings f =
    longer 58 4096 _ (omega arith)
    (pieces (26 ∷ 11 ∷ 10 ∷ 10 ∷ 1 ∷ []) (codes "{\"version\":1,\"mechanism\":\"" ∷ mechanism_text mechanism ∷ codes "\",\"cdw11\":" ∷ decimal (cdw11_of settings) ∷ codes "}" ∷ [])
    (literal _ _ refl refl, (short_mechanism mechanism, (literal _ _ refl refl, (short_cdw11 (cdw11_of settings) (cdw11_small settings f), (literal _ _ refl refl, tt))))))

pub short_set : (settings : ArbitrationFields) → FitsFields settings → IsShort 4096 (set_bytes settings)
short_set settings f =
    longer 18 4096 _ (omega arith)
    (pieces (7 ∷ 10 ∷ 1 ∷ []) (codes "{\"set\":" ∷ decimal (cdw11_of settings) ∷ codes "}" ∷ [])
    (literal _ _ refl refl, (short_cdw11 (cdw11_of settings) (cdw11_small settings f), (literal _ _ refl refl, tt))))

short_queue : (q : Seen) → IsSeen q → IsShort 22 (text_of_queue q)
short_queue q s =
    pieces (1 ∷ 5 ∷ 2 ∷ 6 ∷ 2 ∷ 5 ∷ 1 ∷ []) (codes "[" ∷ decimal q.qid ∷ codes ",\"" ∷ class_text q.class ∷ codes "\"," ∷ decimal q.count ∷ codes "]" ∷ [])
    (literal _ _ refl refl, (short_number q.qid (omega (arith, s.qid)), (literal _ _ refl refl, (short_class q.class, (literal _ _ refl refl, (short_number q.count (omega (arith, s.count)), (literal _ _ refl refl, tt)))))))

short_more : (qs : List Seen) → All IsSeen qs → IsShort (23 * length qs) (flat_map text_of_next qs)
short_more [] a = nothing
short_more (q ∷ qs) a =
    let next : IsShort 23 (text_of_next q) = both 1 22 (codes ",") (text_of_queue q) (literal _ _ refl refl) (short_queue q (All-head IsSeen q qs a)) in
    longer (23 + 23 * length qs) (23 * length (q ∷ qs)) _ (omega arith) (both 23 (23 * length qs) (text_of_next q) (flat_map text_of_next qs) next (short_more qs (All-tail IsSeen q qs a)))

short_seen : (qs : List Seen) → All IsSeen qs → IsShort (23 * length qs) (text_of_seen qs)
short_seen [] a = nothing
short_seen (q ∷ qs) a =
    longer (22 + 23 * length qs) (23 * length (q ∷ qs)) _ (omega arith)
    (both 22 (23 * length qs) (text_of_queue q) (flat_map text_of_next qs) (short_queue q (All-head IsSeen q qs a)) (short_more qs (All-tail IsSeen q qs a)))

short_before : (pick : Pick) → pick.qid < 65536 → pick.n < 65536 → IsShort 46 (text_before_seen pick)
short_before pick qid n =
    pieces (8 ∷ 5 ∷ 5 ∷ 5 ∷ 9 ∷ 5 ∷ 9 ∷ [])
    (codes "{\"pick\":" ∷ decimal pick.qid ∷ codes ",\"n\":" ∷ decimal pick.n ∷ codes ",\"fresh\":" ∷ text_of_flag pick.fresh ∷ codes ",\"seen\":[" ∷ [])
    (literal _ _ refl refl, (short_number pick.qid qid, (literal _ _ refl refl, (short_number pick.n n, (literal _ _ refl refl, (short_flag pick.fresh, (literal _ _ refl refl, tt)))))))

pub short_pick : (seen : List Seen) (pick : Pick) → All IsSeen seen → length seen ≤ 65 → pick.qid < 65536 → pick.n < 65536 → IsShort 4096 (pick_bytes seen pick)
short_pick seen pick a few qid n =
    longer (46 + (23 * length seen + 2)) 4096 _ (omega arith)
    (both 46 (23 * length seen + 2) (text_before_seen pick) (text_of_seen seen ++ codes "]}") (short_before pick qid n)
    (both (23 * length seen) 2 (text_of_seen seen) (codes "]}") (short_seen seen a) (literal _ _ refl refl)))
