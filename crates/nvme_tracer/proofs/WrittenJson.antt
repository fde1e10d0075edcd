-- The JSON values that a trace writes, and their texts.
use Rattle.std.proofs.Common.{◌≡◌, ℕ, Bool, true, false, List, [], ◌∷◌, ◌++◌, refl, sym, ap, ◌∙◌, append_assoc}
use Rattle.std.specs.Prelude.{codes, decimal}
use Rattle.std.specs.List.{concat, flat_map}
use Rattle.json.specs.Token.{Token, begin_array, end_array, string, number, end_object}
use Rattle.json.specs.Json as json
use Rattle.json.specs.Tree.{json_tokens, items_tokens}
use Rattle.json.specs.Print.{print, print_from, escape_byte}
use Rattle.nvme_arbiter.specs.Settings.{ArbitrationFields, cdw11_of}
use Rattle.nvme_arbiter.specs.declared.settings.Class.{Class}
use Rattle.nvme_arbiter.specs.declared.settings.Class.TheVariants.{Admin, Urgent, High, Medium, Low}
use Rattle.nvme_arbiter.specs.declared.settings.Mechanism.{Mechanism}
use Rattle.nvme_arbiter.specs.declared.settings.Mechanism.TheVariants.{RoundRobin, Weighted}
use Rattle.nvme_arbiter.specs.declared.pick.Seen.{Seen}
use Rattle.nvme_arbiter.specs.declared.pick.Pick.{Pick}
use Rattle.nvme_trace.specs.Names.{class_text, mechanism_text}
use Rattle.nvme_tracer.specs.Text.{text_of_head, text_of_queue, text_of_next, text_of_seen, text_before_seen, text_of_pick, text_of_set}

-- the value of each line
abbrev pub head_json : Mechanism → ArbitrationFields → json.Json
head_json mechanism settings =
    json.object (json.member (codes "version") (json.number (codes "1")) (json.member (codes "mechanism") (json.string (mechanism_text mechanism))
    (json.member (codes "cdw11") (json.number (decimal (cdw11_of settings))) json.no_members)))

abbrev pub queue_json : Seen → json.Json
queue_json q = json.array (json.item (json.number (decimal q.qid)) (json.item (json.string (class_text q.class)) (json.item (json.number (decimal q.count)) json.no_items)))

abbrev pub queues_json : List Seen → json.Items
queues_json [] = json.no_items
queues_json (q ∷ qs) = json.item (queue_json q) (queues_json qs)

abbrev pub pick_json : List Seen → Pick → json.Json
pick_json seen pick =
    json.object (json.member (codes "pick") (json.number (decimal pick.qid)) (json.member (codes "n") (json.number (decimal pick.n))
    (json.member (codes "fresh") (json.boolean pick.fresh) (json.member (codes "seen") (json.array (queues_json seen)) json.no_members))))

abbrev pub set_json : ArbitrationFields → json.Json
set_json settings = json.object (json.member (codes "set") (json.number (decimal (cdw11_of settings))) json.no_members)

-- the bytes of a line, its newline aside
abbrev pub line_of : json.Json → List ℕ
line_of j = print (json_tokens j)

-- ---- each line without its newline
abbrev pub head_bytes : Mechanism → ArbitrationFields → List ℕ
head_bytes mechanism settings = concat (codes "{\"version\":1,\"mechanism\":\"" ∷ mechanism_text mechanism ∷ codes "\",\"cdw11\":" ∷ decimal (cdw11_of settings) ∷ codes "}" ∷ [])

abbrev pub set_bytes : ArbitrationFields → List ℕ
set_bytes settings = concat (codes "{\"set\":" ∷ decimal (cdw11_of settings) ∷ codes "}" ∷ [])

abbrev pub pick_bytes : List Seen → Pick → List ℕ
pick_bytes seen pick = text_before_seen pick ++ (text_of_seen seen ++ codes "]}")

pub head_ends : (mechanism : Mechanism) (settings : ArbitrationFields) → text_of_head mechanism settings ≡ head_bytes mechanism settings ++ 10 ∷ []
head_ends RoundRobin settings = sym (ap (λ (l : List ℕ). codes "{\"version\":1,\"mechanism\":\"round-robin\",\"cdw11\":" ++ l) (append_assoc (decimal (cdw11_of settings)) (125 ∷ []) (10 ∷ [])))
head_ends Weighted settings = sym (ap (λ (l : List ℕ). codes "{\"version\":1,\"mechanism\":\"weighted\",\"cdw11\":" ++ l) (append_assoc (decimal (cdw11_of settings)) (125 ∷ []) (10 ∷ [])))

pub set_ends : (settings : ArbitrationFields) → text_of_set settings ≡ set_bytes settings ++ 10 ∷ []
set_ends settings = sym (ap (λ (l : List ℕ). codes "{\"set\":" ++ l) (append_assoc (decimal (cdw11_of settings)) (125 ∷ []) (10 ∷ [])))

pub pick_ends : (seen : List Seen) (pick : Pick) → text_of_pick seen pick ≡ pick_bytes seen pick ++ 10 ∷ []
pick_ends seen pick =
    sym (append_assoc (text_before_seen pick) (text_of_seen seen ++ codes "]}") (10 ∷ [])
    ∙ ap (λ (l : List ℕ). text_before_seen pick ++ l) (append_assoc (text_of_seen seen) (codes "]}") (10 ∷ [])))

pub head_line : (mechanism : Mechanism) (settings : ArbitrationFields) → line_of (head_json mechanism settings) ≡ head_bytes mechanism settings
unfolding print_from escape_byte
head_line RoundRobin settings = refl
head_line Weighted settings = refl

pub set_line : (settings : ArbitrationFields) → line_of (set_json settings) ≡ set_bytes settings
unfolding print_from escape_byte
set_line settings = refl

-- ---- an open queue
abbrev queue_tokens : List ℕ → Class → List ℕ → List Token → List Token
queue_tokens a class b ts = begin_array ∷ number a ∷ string (class_text class) ∷ number b ∷ end_array ∷ ts

abbrev queue_text : List ℕ → Class → List ℕ → List ℕ
queue_text a class b = concat (codes "[" ∷ a ∷ codes ",\"" ∷ class_text class ∷ codes "\"," ∷ b ∷ codes "]" ∷ [])

-- what follows two parts of a text, each behind its literal
spread : (a m b n rest : List ℕ) → (a ++ (m ++ (b ++ n))) ++ rest ≡ a ++ (m ++ (b ++ (n ++ rest)))
spread a m b n rest = append_assoc a _ rest ∙ ap (λ (l : List ℕ). a ++ l) (append_assoc m _ rest ∙ ap (λ (l : List ℕ). m ++ l) (append_assoc b n rest))

queue_after : (a : List ℕ) (class : Class) (b : List ℕ) (ts : List Token) → print_from false (queue_tokens a class b ts) ≡ queue_text a class b ++ print_from true ts
unfolding print_from escape_byte
queue_after a Admin b ts = sym (ap (λ (l : List ℕ). 91 ∷ l) (spread a (codes ",\"admin\",") b (93 ∷ []) (print_from true ts)))
queue_after a Urgent b ts = sym (ap (λ (l : List ℕ). 91 ∷ l) (spread a (codes ",\"urgent\",") b (93 ∷ []) (print_from true ts)))
queue_after a High b ts = sym (ap (λ (l : List ℕ). 91 ∷ l) (spread a (codes ",\"high\",") b (93 ∷ []) (print_from true ts)))
queue_after a Medium b ts = sym (ap (λ (l : List ℕ). 91 ∷ l) (spread a (codes ",\"medium\",") b (93 ∷ []) (print_from true ts)))
queue_after a Low b ts = sym (ap (λ (l : List ℕ). 91 ∷ l) (spread a (codes ",\"low\",") b (93 ∷ []) (print_from true ts)))

comma_before : (a : List ℕ) (class : Class) (b : List ℕ) (ts : List Token) → print_from true (queue_tokens a class b ts) ≡ 44 ∷ print_from false (queue_tokens a class b ts)
unfolding print_from
comma_before a class b ts = refl

-- open queues after others
more_written : (qs : List Seen) (ts : List Token) → print_from true (items_tokens (queues_json qs) ++ ts) ≡ flat_map text_of_next qs ++ (93 ∷ print_from true ts)
unfolding print_from
more_written [] ts = refl
more_written (q ∷ qs) ts =
    let rest : List Token = items_tokens (queues_json qs) ++ ts in
    comma_before (decimal q.qid) q.class (decimal q.count) rest
    ∙ ap (λ (l : List ℕ). 44 ∷ l) (queue_after (decimal q.qid) q.class (decimal q.count) rest
    ∙ ap (λ (l : List ℕ). text_of_queue q ++ l) (more_written qs ts)
    ∙ sym (append_assoc (text_of_queue q) (flat_map text_of_next qs) (93 ∷ print_from true ts)))

seen_written : (qs : List Seen) (ts : List Token) → print_from false (items_tokens (queues_json qs) ++ ts) ≡ text_of_seen qs ++ (93 ∷ print_from true ts)
unfolding print_from
seen_written [] ts = refl
seen_written (q ∷ qs) ts =
    let rest : List Token = items_tokens (queues_json qs) ++ ts in
    queue_after (decimal q.qid) q.class (decimal q.count) rest
    ∙ ap (λ (l : List ℕ). text_of_queue q ++ l) (more_written qs ts)
    ∙ sym (append_assoc (text_of_queue q) (flat_map text_of_next qs) (93 ∷ print_from true ts))

-- ---- a pick
pick_printed : (qid n : ℕ) (fresh : Bool) (seen : List Seen) (rest : List ℕ) → print_from false (items_tokens (queues_json seen) ++ end_object ∷ []) ≡ rest
    → line_of (pick_json seen (record { qid = qid; n = n; fresh = fresh })) ≡ text_before_seen (record { qid = qid; n = n; fresh = fresh }) ++ rest
unfolding print_from escape_byte
pick_printed qid n true seen rest e =
    ap (λ (l : List ℕ). codes "{\"pick\":" ++ (decimal qid ++ (codes ",\"n\":" ++ (decimal n ++ (codes ",\"fresh\":true,\"seen\":[" ++ l))))) e
    ∙ sym (ap (λ (l : List ℕ). codes "{\"pick\":" ++ l) (spread (decimal qid) (codes ",\"n\":") (decimal n) (codes ",\"fresh\":true,\"seen\":[") rest))
pick_printed qid n false seen rest e =
    ap (λ (l : List ℕ). codes "{\"pick\":" ++ (decimal qid ++ (codes ",\"n\":" ++ (decimal n ++ (codes ",\"fresh\":false,\"seen\":[" ++ l))))) e
    ∙ sym (ap (λ (l : List ℕ). codes "{\"pick\":" ++ l) (spread (decimal qid) (codes ",\"n\":") (decimal n) (codes ",\"fresh\":false,\"seen\":[") rest))

closing_text : print_from true (end_object ∷ []) ≡ 125 ∷ []
unfolding print_from
closing_text = refl

pub pick_line : (seen : List Seen) (pick : Pick) → line_of (pick_json seen pick) ≡ pick_bytes seen pick
pick_line seen pick =
    pick_printed pick.qid pick.n pick.fresh seen (text_of_seen seen ++ codes "]}")
    (seen_written seen (end_object ∷ []) ∙ ap (λ (l : List ℕ). text_of_seen seen ++ (93 ∷ l)) closing_text)
