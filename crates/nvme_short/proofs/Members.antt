-- The members of a table with one more, and how deep they nest.
use Rattle.std.proofs.Common.{◌≡◌, ℕ, ◌+◌, ◌≤◌, ◌/◌, ◌%◌, ◌==◌, Bool, true, false, cond, List, [], ◌∷◌, ◌++◌, map, String, Global, Ordering, Less, Equal, Greater, nat_cmp, string_bytes, refl, ◌∙◌, arith}
use Rattle.std.specs.Cmp.Lexicographic.{slice_cmp}
use Rattle.std.specs.Ordering.{match_ordering}
use Rattle.std.specs.BTreeMap.{insert_entry}
use Rattle.std.specs.String.{string_cmp}
use Rattle.toml.specs.Data.{Data, Members, no_members, member, depth, members_depth, items_depth, string, array}
use Rattle.toml.specs.declared.value.Value.{Value}
use Rattle.toml.specs.View.{view, members_view, items_of}
use Rattle.toml.proofs.Views.{Entry}
use Rattle.nvme_admin.specs.declared.bounds.TheConstants.{MAX_IO_QUEUES}
use Rattle.nvme_workload.specs.declared.key.Key.{Key}
use Rattle.nvme_workload.specs.declared.key.Key.TheVariants as key
use Rattle.nvme_workload.specs.Keys.{text_of}
use Rattle.nvme_short_form.specs.declared.command.Item.{Item}
use Rattle.nvme_short_form.specs.declared.queue.Queue.{Queue}
use Rattle.nvme_short_form.specs.declared.form.Form.{Form}
use Rattle.nvme_short.specs.Documents.{with_member, with_key, with_number_over, number, flat, item_data, script_data, completion_data, submission_data, submission_of, completions_of, submissions_in, completions_in, sq_address, cq_address, admin_script, mechanism_name, document_of}

-- ---- an insert into the map of a table

view_match : (o : Ordering) (a b c : List Entry) → members_view (match_ordering o a b c) ≡ match_ordering o (members_view a) (members_view b) (members_view c)
view_match Less a b c = refl
view_match Equal a b c = refl
view_match Greater a b c = refl

pub members_view-insert_entry : (es : List Entry) (k : String Global) (v : Value) → members_view (insert_entry string_cmp es k v) ≡ with_member (string_bytes k) (view v) (members_view es)
unfolding with_member
members_view-insert_entry [] k v = refl
members_view-insert_entry (e ∷ es) k v = view_match (string_cmp k e.0) _ _ _ ∙ rw (members_view-insert_entry es k v)

-- ---- depths

-- at most n deep
abbrev Below : ℕ → Members → Type 0
Below n ms = members_depth ms ≤ n

chosen : (o : Ordering) (n : ℕ) (a b c : Members) → Below n a → Below n b → Below n c → Below n (match_ordering o a b c)
chosen Less n a b c ha hb hc = ha
chosen Equal n a b c ha hb hc = hb
chosen Greater n a b c ha hb hc = hc

with_below : (n : ℕ) (k : List ℕ) (d : Data) (ms : Members) → depth d ≤ n → Below n ms → Below n (with_member k d ms)
unfolding with_member
with_below n k d no_members h all = omega (arith, h)
with_below n k d (member l e ms) h all =
    let here : depth e ≤ n = omega (arith, all) in
    let rest : Below n ms = omega (arith, all) in
    chosen (slice_cmp nat_cmp k l) n _ _ _ (omega (arith, h, all)) (omega (arith, h, rest)) (omega (arith, here, with_below n k d ms h rest))

number_below : (n : ℕ) (k : Key) (x : ℕ) (ms : Members) → Below n ms → Below n (with_key k (number x) ms)
number_below n k x ms all = with_below n (text_of k) (number x) ms (omega arith) all

array_below : (n : ℕ) (k : Key) (ds : List Data) (ms : Members) → items_depth (items_of ds) ≤ n → Below (n + 1) ms → Below (n + 1) (with_key k (array (items_of ds)) ms)
array_below n k ds ms h all = with_below (n + 1) (text_of k) (array (items_of ds)) ms (omega (arith, h)) all

over_below : (n default : ℕ) (k : Key) (x : ℕ) (ms : Members) → Below n ms → Below n (with_number_over default k x ms)
over_below n default k x ms all = go (x == default)
  where
    go : (b : Bool) → Below n (cond b ms (with_key k (number x) ms))
    go true = all
    go false = number_below n k x ms all

items_below : {A : Type 0} (f : A → Data) (n : ℕ) → ((x : A) → depth (f x) ≤ n) → (xs : List A) → items_depth (items_of (map f xs)) ≤ n
items_below f n h [] = omega arith
items_below f n h (x ∷ xs) = omega (arith, h x, items_below f n h xs)

both_below : (n : ℕ) (xs ys : List Data) → items_depth (items_of xs) ≤ n → items_depth (items_of ys) ≤ n → items_depth (items_of (xs ++ ys)) ≤ n
both_below n [] ys hx hy = hy
both_below n (x ∷ xs) ys hx hy =
    let rest : items_depth (items_of xs) ≤ n = omega (arith, hx) in
    omega (arith, hx, both_below n xs ys rest hy)

flat_below : {A : Type 0} (f : A → List Data) (n : ℕ) → ((x : A) → items_depth (items_of (f x)) ≤ n) → (xs : List A) → items_depth (items_of (flat f xs)) ≤ n
flat_below f n h [] = omega arith
flat_below f n h (x ∷ xs) = both_below n (f x) (flat f xs) (h x) (flat_below f n h xs)

item_below : (i : Item) → depth (item_data i) ≤ 1
item_below i =
    let first = with_below 0 (text_of key.Op) (number i.op) no_members (omega arith) (omega arith) in
    let one = over_below 0 0 key.Flags i.flags _ first in
    let two = over_below 0 0 key.Nsid i.nsid _ one in
    let three = over_below 0 0 key.Prp1 i.prp1 _ two in
    let four = over_below 0 0 key.Cdw10 (i.dw10 % 4294967296) _ three in
    let five = over_below 0 0 key.Cdw11 (i.dw10 / 4294967296) _ four in
    let six = over_below 0 0 key.Cdw12 i.cdw12 _ five in
    let seven = over_below 0 1 key.Count i.count _ six in
    omega (arith, seven)

script_below : (items : List Item) → depth (script_data items) ≤ 2
script_below items = omega (arith, items_below item_data 1 item_below items)

ring_below : (n address slots : ℕ) → Below n (with_key key.Slots (number slots) (with_key key.Address (number address) no_members))
ring_below n address slots = number_below n key.Slots slots _ (number_below n key.Address address no_members (omega arith))

completion_below : (address slots : ℕ) → depth (completion_data address slots) ≤ 3
completion_below address slots = omega (arith, ring_below 2 address slots)

submission_below : (address slots : ℕ) (items : List Item) → depth (submission_data address slots items) ≤ 3
submission_below address slots items =
    omega (arith, with_below 2 (text_of key.Script) (script_data items) _ (script_below items) (ring_below 2 address slots))

own_below : (q : Queue) → items_depth (items_of (completions_of q)) ≤ 3
own_below q = go (q.cq == q.number)
  where
    go : (b : Bool) → items_depth (items_of (cond b (completion_data (cq_address q.number) q.cq_depth ∷ []) [])) ≤ 3
    go true = omega (arith, completion_below (cq_address q.number) q.cq_depth)
    go false = omega arith

submissions_below : (f : Form) → items_depth (items_of (submissions_in f)) ≤ 3
submissions_below f = omega (arith, submission_below (sq_address 0) f.admin_depth (admin_script f.queues f.steps), items_below submission_of 3 (λ q. submission_below (sq_address q.number) q.depth q.script) f.queues)

completions_below : (f : Form) → items_depth (items_of (completions_in f)) ≤ 3
completions_below f = omega (arith, completion_below (cq_address 0) f.admin_cq_depth, flat_below completions_of 3 own_below f.queues)

-- a document nests no deeper than TOML is read
pub document_below : (f : Form) → members_depth (document_of f) ≤ 80
unfolding document_of
document_below f =
    let a = with_below 80 (text_of key.Mechanism) (string (mechanism_name f.mechanism)) no_members (omega arith) (omega arith) in
    let b = number_below 80 key.Arbitration f.arbitration _ a in
    let c = number_below 80 key.SqLimit MAX_IO_QUEUES _ b in
    let d = number_below 80 key.CqLimit MAX_IO_QUEUES _ c in
    let e = number_below 80 key.Patience f.patience _ d in
    let g = array_below 79 key.Namespaces (map number f.sizes) _ (items_below number 79 shallow_number f.sizes) e in
    let h = array_below 79 key.Submission (submissions_in f) _ (deeper _ (submissions_below f)) g in
    array_below 79 key.Completion (completions_in f) _ (deeper _ (completions_below f)) h
  where
    shallow_number : (n : ℕ) → depth (number n) ≤ 79
    shallow_number n = omega arith

    deeper : (n : ℕ) → n ≤ 3 → n ≤ 79
    deeper n h = omega (arith, h)

pub shallow : (ms : Members) (f : Form) → ms ≡ document_of f → members_depth ms ≤ 80
shallow ms f is = rw is (document_below f)
