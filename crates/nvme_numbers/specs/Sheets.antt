-- An answer as comma-separated values. (profile)
use Rattle.std.specs.Prelude.{ℕ, ◌+◌, List, [], ◌∷◌, ◌++◌, Option, codes}
use Rattle.std.specs.List.{flat_map}
use Rattle.nvme_cells.specs.Rows.{Named, csv_names, csv_values}
use Rattle.nvme_cells.specs.Values.{Nothing, Text, Value, Whole, fraction_of}
use Rattle.nvme_cells.specs.declared.cell.Places.TheVariants.{Four, Five}
use Rattle.nvme_numbers.specs.Answers.{busy_of, time_of}
use Rattle.nvme_numbers.specs.Columns.{aboves, column, commands, feeds, latencies, parts, rates}
use Rattle.nvme_numbers.specs.Names.{class_text}
use Rattle.nvme_numbers.specs.Quotients.{quotient_of}
use Rattle.nvme_numbers.specs.declared.answer.Answer.{Answer}
use Rattle.nvme_numbers.specs.declared.answer.Member.{Member}
use Rattle.nvme_numbers.specs.declared.row.Row.{Row}

-- for which part of the simulated time all channels ran commands, in thousandths of a percent
abbrev pub utilization_of : Answer → Option ℕ
utilization_of a = quotient_of (busy_of a.channels.now) 100_000 (time_of a.end a.channels.now)

-- which program simulated what, by which seed
abbrev pub seed_of : Answer → Named
seed_of a = column (codes "seed") (Whole a.asked.seed)

abbrev pub origins : Answer → List Named
origins a =
    column (codes "version") (Text a.about.version.now)
    ∷ column (codes "digest") (Text a.about.digest.now)
    ∷ []

-- of which commands a line tells
abbrev pub scopes : (scope : List ℕ) → (name class : Value) → List Named
scopes scope name class =
    column (codes "scope") (Text scope)
    ∷ column (codes "name") name
    ∷ column (codes "class") class
    ∷ []

-- what the line of all alone tells
abbrev pub totals : (utilization jain by_weight : Value) → List Named
totals utilization jain by_weight =
    column (codes "utilization") utilization
    ∷ column (codes "jain") jain
    ∷ column (codes "jain_by_weight") by_weight
    ∷ []

abbrev pub no_totals : List Named
no_totals = totals Nothing Nothing Nothing

abbrev pub totals_of : Answer → List Named
totals_of a = totals (fraction_of Five (utilization_of a)) (fraction_of Four a.jain) (fraction_of Four a.jain_by_weight)

abbrev pub line_of : Answer → (scope : List Named) → Row → (total : List Named) → List Named
line_of a scope row total =
    seed_of a ∷ (origins a ++ (scope ++ (commands row ∷ (rates row ++ (latencies row.spread ++ (parts row.spread ++ (total ++ (feeds row.fed ++ aboves row.spread))))))))

abbrev pub line_of_queue : Answer → (place : ℕ) → Member → List Named
line_of_queue a place m =
    line_of a (scopes (codes "queue") (Whole (place + 1)) (Text (class_text m.class))) m.row no_totals

abbrev pub line_of_class : Answer → Member → List Named
line_of_class a m =
    line_of a (scopes (codes "class") (Text (class_text m.class)) (Text (class_text m.class))) m.row no_totals

abbrev pub line_of_all : Answer → List Named
line_of_all a =
    line_of a (scopes (codes "all") (Text (codes "all")) Nothing) a.all (totals_of a)

-- texts of the elements of a list, each with its place
abbrev pub placed : {A : Type 0} → (ℕ → A → List ℕ) → (place : ℕ) → List A → List ℕ
placed text place [] = []
placed text place (x ∷ xs) = text place x ++ placed text (place + 1) xs

-- the names, and a line for each queue, each class and all
abbrev pub answer_csv : Answer → List ℕ
answer_csv a =
    csv_names (line_of_all a)
    ++ (placed (λ place m. csv_values (line_of_queue a place m)) 0 a.queues.items
    ++ (flat_map (λ m. csv_values (line_of_class a m)) a.classes.items
    ++ csv_values (line_of_all a)))
