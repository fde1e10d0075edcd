-- What a short workload file is written out to: the table of a workload file of today's form. (profile)
use Rattle.std.specs.Prelude.{ℕ, ◌+◌, ◌-◌, ◌*◌, ◌/◌, ◌%◌, ◌^◌, ◌==◌, Bool, false, pos, if◌then◌else◌, codes, List, [], ◌∷◌, ◌++◌, map}
use Rattle.std.specs.List.{list_any}
use Rattle.std.specs.Cmp.Lexicographic.{slice_cmp}
use Rattle.std.specs.Ordering.{match_ordering, nat_cmp}
use Rattle.toml.specs.Data.{Data, string, integer, array, table, Members, no_members, member}
use Rattle.toml.specs.View.{items_of}
use Rattle.nvme_arbiter.specs.declared.settings.Mechanism.{Mechanism}
use Rattle.nvme_arbiter.specs.declared.settings.Mechanism.TheVariants.{RoundRobin, Weighted}
use Rattle.nvme_admin.specs.declared.bounds.TheConstants.{MAX_IO_QUEUES}
use Rattle.nvme_workload.specs.declared.key.Key.{Key}
use Rattle.nvme_workload.specs.declared.key.Key.TheVariants as key
use Rattle.nvme_workload.specs.Keys.{text_of}
use Rattle.nvme_short_form.specs.declared.command.Item.{Item}
use Rattle.nvme_short_form.specs.declared.admin.Step.{Step}
use Rattle.nvme_short_form.specs.declared.admin.Step.TheVariants.{Create, Command}
use Rattle.nvme_short_form.specs.declared.queue.Queue.{Queue}
use Rattle.nvme_short_form.specs.declared.form.Form.{Form}

-- ---- tables

-- the members with one more at its place, since the keys of a table ascend
unfoldable pub with_member : List ℕ → Data → Members → Members
with_member name d no_members = member name d no_members
with_member name d (member other e ms) =
    match_ordering (slice_cmp nat_cmp name other) (member name d (member other e ms)) (member other d ms) (member other e (with_member name d ms))

abbrev pub with_key : Key → Data → Members → Members
with_key k d ms = with_member (text_of k) d ms

-- a number. All numbers of a form are below 2^63
abbrev pub number : ℕ → Data
number n = integer (pos (n % 2 ^ 63))

-- a number that is left out where it is the one that is read then
abbrev pub with_number_over : ℕ → Key → ℕ → Members → Members
with_number_over default k n ms = if n == default then ms else with_key k (number n) ms

-- what each element of a list makes, one after another
abbrev pub flat : {A B : Type 0} → (A → List B) → List A → List B
flat f [] = []
flat f (x ∷ xs) = f x ++ flat f xs

-- ---- scripts

abbrev pub item_members : Item → Members
item_members item =
    with_number_over 1 key.Count item.count
    (with_number_over 0 key.Cdw12 item.cdw12
    (with_number_over 0 key.Cdw11 (item.dw10 / 4294967296)
    (with_number_over 0 key.Cdw10 (item.dw10 % 4294967296)
    (with_number_over 0 key.Prp1 item.prp1
    (with_number_over 0 key.Nsid item.nsid
    (with_number_over 0 key.Flags item.flags
    (with_key key.Op (number item.op) no_members)))))))

abbrev pub item_data : Item → Data
item_data item = table (item_members item)

abbrev pub script_data : List Item → Data
script_data items = array (items_of (map item_data items))

-- ---- regions

-- the addresses of the rings of the queue of a number, 0 for the admin queue: a MiB for each
abbrev pub sq_address : ℕ → ℕ
sq_address queue = 1048576 * (queue + 1)

abbrev pub cq_address : ℕ → ℕ
cq_address queue = 1048576 * (queue + 129)

abbrev pub completion_data : ℕ → ℕ → Data
completion_data address slots = table (with_key key.Slots (number slots) (with_key key.Address (number address) no_members))

abbrev pub submission_data : ℕ → ℕ → List Item → Data
submission_data address slots items =
    table (with_key key.Script (script_data items) (with_key key.Slots (number slots) (with_key key.Address (number address) no_members)))

-- ---- the admin script

-- Create I/O Completion Queue (05h) and Create I/O Submission Queue (01h): CDW10 31:16 QSIZE, which is zero based, 15:00 QID; CDW11 of
-- the latter 31:16 CQID, 02:01 QPRIO; 00 PC of both; PRP entry 1
abbrev pub create_cq : Queue → Item
create_cq q = record { op = 5; flags = 0; nsid = 0; prp1 = cq_address q.number; dw10 = q.number + 65536 * (q.cq_depth - 1) + 4294967296; cdw12 = 0; count = 1 }

abbrev pub create_sq : Queue → Item
create_sq q = record { op = 1; flags = 0; nsid = 0; prp1 = sq_address q.number; dw10 = q.number + 65536 * (q.depth - 1) + 4294967296 * (1 + 2 * q.qprio + 65536 * q.cq); cdw12 = 0; count = 1 }

-- the Creates of a queue: of its completion queue, where it is its own, and of its submission queue
abbrev pub creates_of : Queue → List Item
creates_of q = if q.cq == q.number then create_cq q ∷ create_sq q ∷ [] else create_sq q ∷ []

-- the step creates the queue of the number
abbrev pub creates : ℕ → Step → Bool
creates number (Create n) = n == number
creates number (Command item) = false

-- the Creates of a queue that no step creates
abbrev pub first_creates_of : List Step → Queue → List Item
first_creates_of steps q = if list_any (creates q.number) steps then [] else creates_of q

-- the Creates of a queue, where it has the number
abbrev pub creates_at : ℕ → Queue → List Item
creates_at number q = if q.number == number then creates_of q else []

abbrev pub step_items : List Queue → Step → List Item
step_items queues (Create n) = flat (creates_at n) queues
step_items queues (Command item) = item ∷ []

-- the Creates of the queues that no step creates, in order, and then the steps
abbrev pub admin_script : List Queue → List Step → List Item
admin_script queues steps = flat (first_creates_of steps) queues ++ flat (step_items queues) steps

-- ---- the file's own table

abbrev pub submission_of : Queue → Data
submission_of q = submission_data (sq_address q.number) q.depth q.script

-- the completion region of a queue with a completion queue of its own
abbrev pub completions_of : Queue → List Data
completions_of q = if q.cq == q.number then completion_data (cq_address q.number) q.cq_depth ∷ [] else []

abbrev pub submissions_in : Form → List Data
submissions_in f = submission_data (sq_address 0) f.admin_depth (admin_script f.queues f.steps) ∷ map submission_of f.queues

abbrev pub completions_in : Form → List Data
completions_in f = completion_data (cq_address 0) f.admin_cq_depth ∷ flat completions_of f.queues

abbrev pub mechanism_name : Mechanism → List ℕ
mechanism_name RoundRobin = codes "round-robin"
mechanism_name Weighted = codes "weighted"

unfoldable pub document_of : Form → Members
document_of f =
    with_key key.Completion (array (items_of (completions_in f)))
    (with_key key.Submission (array (items_of (submissions_in f)))
    (with_key key.Namespaces (array (items_of (map number f.sizes)))
    (with_key key.Patience (number f.patience)
    (with_key key.CqLimit (number MAX_IO_QUEUES)
    (with_key key.SqLimit (number MAX_IO_QUEUES)
    (with_key key.Arbitration (number f.arbitration)
    (with_key key.Mechanism (string (mechanism_name f.mechanism)) no_members)))))))
