-- What the parts of the text that a short file is written out to are in the file. (profile)
use Rattle.std.specs.Prelude.{◌≡◌, ℕ, ◌+◌, ◌==◌, if◌then◌else◌, List, [], ◌∷◌, ◌++◌, replicate, Option, Some, None, Ok}
use Rattle.toml.specs.Data.{Members}
use Rattle.nvme_short_form.specs.declared.command.Item.{Item}
use Rattle.nvme_short_form.specs.declared.admin.Step.{Step}
use Rattle.nvme_short_form.specs.declared.queue.Queue.{Queue}
use Rattle.nvme_short_form.specs.declared.form.Form.{Form}
use Rattle.nvme_short_form.specs.declared.place.Place.{Place}
use Rattle.nvme_short_form.specs.declared.place.Place.TheVariants as place
use Rattle.nvme_short_form.specs.Form.{form_of}
use Rattle.nvme_short.specs.Documents.{flat, first_creates_of, step_items}
use Rattle.nvme_short.specs.Expansion.{short_in}
use Rattle.nvme_short.specs.declared.names.Names.{Names}

-- what the elements of a list make, one after another, each by its index. The first has this one
abbrev pub flat_from : {A B : Type 0} → (ℕ → A → List B) → ℕ → List A → List B
flat_from f i [] = []
flat_from f i (x ∷ xs) = f i x ++ flat_from f (i + 1) xs

-- a place for each command of an item
abbrev pub places_of : Place → Item → List Place
places_of place item = replicate item.count place

-- the places of the Creates of a queue that no item of `admin` creates: the queue's
abbrev pub first_places_of : List Step → Queue → List Place
first_places_of steps q = flat (places_of (place.Queue q.number)) (first_creates_of steps q)

-- the places of the commands of the item of `admin` with this index: that item's
abbrev pub step_places : List Queue → ℕ → Step → List Place
step_places queues index step = flat (places_of (place.Admin index)) (step_items queues step)

-- the places of all commands of the admin script
abbrev pub admin_places : List Queue → List Step → List Place
admin_places queues steps = flat (first_places_of steps) queues ++ flat_from (step_places queues) 0 steps

-- the number of a queue with a completion queue of its own
abbrev pub own_cq : Queue → List ℕ
own_cq q = if q.cq == q.number then q.number ∷ [] else []

-- the names of what a form is written out to: each command of the admin script has its place, and each completion region but the first the number of its queue
pub record AreNamesOf (form : Form) (names : Names) : Type 0 where
  pub commands : names.commands.items ≡ admin_places form.queues form.steps
  pub completions : names.completions.items ≡ flat own_cq form.queues

-- of a short table
abbrev pub AreNamesIn : Members → Names → Type 0
AreNamesIn table names = (form : Form) × (form_of table ≡ Ok form) × AreNamesOf form names

-- a short file has names, and no other
abbrev pub AreNamesBy : Option Members → Option Names → Type 0
AreNamesBy None None = Unit {0}
AreNamesBy (Some table) (Some names) = AreNamesIn table names
AreNamesBy None (Some names) = ⊥
AreNamesBy (Some table) None = ⊥

-- these are the names of the bytes of a file
abbrev pub AreNamesFor : List ℕ → Option Names → Type 0
AreNamesFor bytes names = AreNamesBy (short_in bytes) names
