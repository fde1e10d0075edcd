-- A written line is read back as what was written.
use Rattle.std.proofs.Common.{◌≡◌, ℕ, suc, ◌<◌, ◌≤◌, ltb, leb, true, false, List, [], ◌∷◌, ◌++◌, length, Some, None, Ok, option_and_then, refl, sym, ap, subst, ◌∙◌, arith, append_assoc, append-nil}
use Rattle.std.specs.Prelude.{codes, All}
use Rattle.std.proofs.lemmas.Bool.{le-leb, le-ltb}
use Rattle.std.proofs.lemmas.Fmt.{decimal_digit}
use Rattle.std.proofs.lemmas.List.Elements.{All-head, All-tail}
use Rattle.json.specs.Json as json
use Rattle.json.specs.Tree.{json_tokens, depth, items_depth, HasNumbers, ItemsHaveNumbers}
use Rattle.json.specs.Print.{IsNumber}
use Rattle.json.proofs.Printed.Decimals.{IsNumber-decimal}
use Rattle.json.proofs.Printed.Tokens.{tokens-print}
use Rattle.json.proofs.Printed.Trees.{value-json_tokens, ArePrintable-json_tokens}
use Rattle.serde_json.specs.Data.{Data, boolean, number, string, array, object, unsigned, Items, no_items, item, no_members, member}
use Rattle.serde_json.specs.Read.{read, of_json, of_items, number_of, max_depth}
use Rattle.serde_json.proofs.Numbers.{number_of-decimal}
use Rattle.nvme_arbiter.specs.Settings.{ArbitrationFields, FitsFields, cdw11_of, settings_of}
use Rattle.nvme_arbiter.specs.Limits.{queue_limit}
use Rattle.nvme_arbiter.specs.Observation.{IsSeen, IsObservation, is_observation_from}
use Rattle.nvme_arbiter.specs.History.{Picked, Changed}
use Rattle.nvme_arbiter.proofs.Observations.{tested}
use Rattle.nvme_arbiter.proofs.SettingsLemmas.{reads_back}
use Rattle.nvme_arbiter.specs.declared.settings.Class.{Class}
use Rattle.nvme_arbiter.specs.declared.settings.Class.TheVariants.{Admin, Urgent, High, Medium, Low}
use Rattle.nvme_arbiter.specs.declared.settings.Mechanism.{Mechanism}
use Rattle.nvme_arbiter.specs.declared.settings.Mechanism.TheVariants.{RoundRobin, Weighted}
use Rattle.nvme_arbiter.specs.declared.pick.Seen.{Seen}
use Rattle.nvme_arbiter.specs.declared.pick.Pick.{Pick}
use Rattle.nvme_trace.specs.declared.basis.Basis.TheVariants.{Profile}
use Rattle.nvme_trace.specs.Names.{class_text, mechanism_text}
use Rattle.nvme_trace.specs.Readings.{item_count, number_at, flag_at}
use Rattle.nvme_trace.specs.Format.{class_named, queue_of, triple_of, queues_from, queues_of, observation_of, head_in, set_in, pick_in, event_in, data_of, object_in, head_of_line, room_in, room_of_line, fresh_in, event_by, event_of_line}
use Rattle.nvme_lines.specs.Lines.{longest_line}
use Rattle.nvme_tracer.proofs.PlainLines.{plain_utf8}
use Rattle.nvme_tracer.proofs.ShortLines.{IsShort, cdw11_small, short_head, short_set, short_pick}
use Rattle.nvme_tracer.proofs.WrittenJson.{head_json, queues_json, pick_json, set_json, line_of, head_bytes, set_bytes, pick_bytes, head_line, set_line, pick_line}

-- ---- the values that are read
abbrev head_data : Mechanism → ArbitrationFields → Data
head_data mechanism settings =
    object (member (codes "cdw11") (number (unsigned (cdw11_of settings))) (member (codes "mechanism") (string (mechanism_text mechanism)) (member (codes "version") (number (unsigned 1)) no_members)))

abbrev queue_data : Seen → Data
queue_data q = array (item (number (unsigned q.qid)) (item (string (class_text q.class)) (item (number (unsigned q.count)) no_items)))

abbrev queues_data : List Seen → Items
queues_data [] = no_items
queues_data (q ∷ qs) = item (queue_data q) (queues_data qs)

abbrev pick_data : List Seen → Pick → Data
pick_data seen pick =
    object (member (codes "fresh") (boolean pick.fresh) (member (codes "n") (number (unsigned pick.n)) (member (codes "pick") (number (unsigned pick.qid)) (member (codes "seen") (array (queues_data seen)) no_members))))

abbrev set_data : ArbitrationFields → Data
set_data settings = object (member (codes "set") (number (unsigned (cdw11_of settings))) no_members)

-- ---- a line is the value that it was written for
reads : (j : json.Json) (d : Data) (line : List ℕ) → line_of j ≡ line → HasNumbers j → depth j ≤ max_depth → of_json j ≡ Some d → read line ≡ Some d
reads j d line e numbers shallow is =
    ap read (sym e) ∙
    ap (λ o. option_and_then of_json (option_and_then (λ p. json.if_last p.0 p.1) o))
    (ap (json.value max_depth) (tokens-print (json_tokens j) (ArePrintable-json_tokens j numbers) ∙ sym (append-nil (json_tokens j))) ∙ value-json_tokens j max_depth [] shallow) ∙ is

data_read : (line : List ℕ) (d : Data) → IsShort 4096 line → read line ≡ Some d → data_of line ≡ Ok d
unfolding data_of
data_read line d short is =
    let few : ltb longest_line (length line) ≡ false = le-ltb longest_line (length line) short.short in
    rw (few, plain_utf8 line short.plain, is) refl

one_is : number_of (codes "1") ≡ Some (unsigned 1)
one_is = ap number_of (sym (decimal_digit 1 (omega arith))) ∙ number_of-decimal 1 (omega arith)

one_number : IsNumber (codes "1")
one_number = subst IsNumber (decimal_digit 1 (omega arith)) (IsNumber-decimal 1 (omega arith))

-- ---- the head
head_is : (mechanism : Mechanism) (settings : ArbitrationFields) → cdw11_of settings < 4294967296 → of_json (head_json mechanism settings) ≡ Some (head_data mechanism settings)
head_is mechanism settings small = rw (one_is, number_of-decimal (cdw11_of settings) (omega arith)) refl

head_told : (mechanism : Mechanism) (settings : ArbitrationFields) → cdw11_of settings < 4294967296 → head_in (head_data mechanism settings) ≡ Ok (record { mechanism = mechanism; settings = settings_of (cdw11_of settings) })
unfolding head_in number_at
head_told RoundRobin settings small = let e : leb (cdw11_of settings) 4294967295 ≡ true = le-leb _ _ (omega arith) in rw e refl
head_told Weighted settings small = let e : leb (cdw11_of settings) 4294967295 ≡ true = le-leb _ _ (omega arith) in rw e refl

head_parsed : (mechanism : Mechanism) (settings : ArbitrationFields) → FitsFields settings → data_of (head_bytes mechanism settings) ≡ Ok (head_data mechanism settings)
head_parsed mechanism settings f =
    let small = cdw11_small settings f in
    data_read _ (head_data mechanism settings) (short_head mechanism settings f)
    (reads (head_json mechanism settings) (head_data mechanism settings) _ (head_line mechanism settings) (one_number, (tt, (IsNumber-decimal (cdw11_of settings) (omega arith), tt))) (omega arith) (head_is mechanism settings small))

pub head_room : (mechanism : Mechanism) (settings : ArbitrationFields) → FitsFields settings → room_of_line (head_bytes mechanism settings) ≡ None
unfolding room_in
head_room mechanism settings f = rw (head_parsed mechanism settings f) refl

pub head_read : (mechanism : Mechanism) (settings : ArbitrationFields) → FitsFields settings
    → head_of_line (head_bytes mechanism settings) ≡ Ok (record { mechanism = mechanism; settings = settings })
unfolding head_of_line object_in
head_read mechanism settings f =
    let small = cdw11_small settings f in
    rw (head_parsed mechanism settings f) (head_told mechanism settings small ∙ ap (λ (s : ArbitrationFields). Ok (record { mechanism = mechanism; settings = s })) (reads_back settings f))

-- ---- a change of the settings
set_is : (settings : ArbitrationFields) → cdw11_of settings < 4294967296 → of_json (set_json settings) ≡ Some (set_data settings)
set_is settings small = rw (number_of-decimal (cdw11_of settings) (omega arith)) refl

set_told : (settings : ArbitrationFields) → cdw11_of settings < 4294967296 → event_in Profile (set_data settings) ≡ Ok (Changed (settings_of (cdw11_of settings)))
unfolding event_in set_in number_at
set_told settings small = let e : leb (cdw11_of settings) 4294967295 ≡ true = le-leb _ _ (omega arith) in rw e refl

set_parsed : (settings : ArbitrationFields) → FitsFields settings → data_of (set_bytes settings) ≡ Ok (set_data settings)
set_parsed settings f =
    let small = cdw11_small settings f in
    data_read _ (set_data settings) (short_set settings f)
    (reads (set_json settings) (set_data settings) _ (set_line settings) (IsNumber-decimal (cdw11_of settings) (omega arith), tt) (omega arith) (set_is settings small))

pub set_room : (settings : ArbitrationFields) → FitsFields settings → room_of_line (set_bytes settings) ≡ None
set_room settings f = rw (set_parsed settings f) refl

pub set_read : (settings : ArbitrationFields) → FitsFields settings → event_of_line (set_bytes settings) ≡ Ok (Changed settings)
unfolding event_by object_in
set_read settings f =
    let small = cdw11_small settings f in
    rw (set_parsed settings f) (set_told settings small ∙ ap (λ (s : ArbitrationFields). Ok (Changed s)) (reads_back settings f))

-- ---- the open queues
queues_numbers : (qs : List Seen) → All IsSeen qs → ItemsHaveNumbers (queues_json qs)
queues_numbers [] a = tt
queues_numbers (q ∷ qs) a =
    let s = All-head IsSeen q qs a in
    ((IsNumber-decimal q.qid (omega (arith, s.qid)), (tt, (IsNumber-decimal q.count (omega (arith, s.count)), tt))), queues_numbers qs (All-tail IsSeen q qs a))

queues_depth : (qs : List Seen) → items_depth (queues_json qs) ≤ 1
queues_depth [] = omega arith
queues_depth (q ∷ qs) = omega (arith, queues_depth qs)

queues_are : (qs : List Seen) → All IsSeen qs → of_items (queues_json qs) ≡ Some (queues_data qs)
queues_are [] a = refl
queues_are (q ∷ qs) a =
    let s = All-head IsSeen q qs a in
    rw (number_of-decimal q.qid (omega (arith, s.qid)), number_of-decimal q.count (omega (arith, s.count)), queues_are qs (All-tail IsSeen q qs a)) refl

class_back : (class : Class) → class_named (Some (class_text class)) ≡ Some class
class_back Admin = refl
class_back Urgent = refl
class_back High = refl
class_back Medium = refl
class_back Low = refl

queue_back : (q : Seen) → IsSeen q → queue_of (queue_data q) ≡ Some q
unfolding queue_of triple_of
queue_back q s =
    let a : leb q.qid 65535 ≡ true = le-leb _ _ (omega (arith, s.qid)) in
    let b : leb q.count 65535 ≡ true = le-leb _ _ (omega (arith, s.count)) in
    rw (a, class_back q.class, b) refl

queues_back : (before qs : List Seen) → All IsSeen qs → queues_from before (queues_data qs) ≡ Some (before ++ qs)
unfolding queues_from
queues_back before [] a = ap Some (sym (append-nil before))
queues_back before (q ∷ qs) a =
    rw (queue_back q (All-head IsSeen q qs a)) (queues_back (before ++ q ∷ []) qs (All-tail IsSeen q qs a) ∙ ap Some (append_assoc before (q ∷ []) qs))

count_of : (qs : List Seen) → item_count (queues_data qs) ≡ length qs
count_of [] = refl
count_of (q ∷ qs) = ap suc (count_of qs)

observed_back : (seen : List Seen) → IsObservation seen → length seen ≤ 65 → observation_of (array (queues_data seen)) ≡ Some seen
unfolding observation_of queues_of
observed_back seen o few =
    let short : ltb queue_limit (item_count (queues_data seen)) ≡ false = le-ltb _ _ (omega (arith, count_of seen)) in
    let yes : is_observation_from 0 seen ≡ true = (tested seen).1 o in
    rw (short, queues_back [] seen o.each, yes) refl

-- ---- a pick
pick_is : (seen : List Seen) (pick : Pick) → All IsSeen seen → pick.qid < 65536 → pick.n < 65536 → of_json (pick_json seen pick) ≡ Some (pick_data seen pick)
pick_is seen pick a qid n = rw (number_of-decimal pick.qid (omega arith), number_of-decimal pick.n (omega arith), queues_are seen a) refl

pick_told : (seen : List Seen) (pick : Pick) → IsObservation seen → length seen ≤ 65 → pick.qid < 65536 → pick.n < 65536 → event_in Profile (pick_data seen pick) ≡ Ok (Picked seen pick)
unfolding event_in pick_in room_in fresh_in number_at flag_at
pick_told seen pick o few qid n =
    let a : leb pick.qid 65535 ≡ true = le-leb _ _ (omega arith) in
    let b : leb pick.n 65535 ≡ true = le-leb _ _ (omega arith) in
    rw (a, b, observed_back seen o few) refl

pick_parsed : (seen : List Seen) (pick : Pick) → IsObservation seen → length seen ≤ 65 → pick.qid < 65536 → pick.n < 65536 → data_of (pick_bytes seen pick) ≡ Ok (pick_data seen pick)
pick_parsed seen pick o few qid n =
    data_read _ (pick_data seen pick) (short_pick seen pick o.each few qid n)
    (reads (pick_json seen pick) (pick_data seen pick) _ (pick_line seen pick) (IsNumber-decimal pick.qid (omega arith), (IsNumber-decimal pick.n (omega arith), (tt, (queues_numbers seen o.each, tt))))
    (omega (arith, queues_depth seen)) (pick_is seen pick o.each qid n))

pub pick_room : (seen : List Seen) (pick : Pick) → IsObservation seen → length seen ≤ 65 → pick.qid < 65536 → pick.n < 65536 → room_of_line (pick_bytes seen pick) ≡ None
unfolding room_in
pick_room seen pick o few qid n = rw (pick_parsed seen pick o few qid n) refl

pub pick_read : (seen : List Seen) (pick : Pick) → IsObservation seen → length seen ≤ 65 → pick.qid < 65536 → pick.n < 65536 → event_of_line (pick_bytes seen pick) ≡ Ok (Picked seen pick)
unfolding event_by object_in
pick_read seen pick o few qid n = rw (pick_parsed seen pick o few qid n) (pick_told seen pick o few qid n)
