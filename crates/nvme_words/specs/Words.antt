-- What the words of the command line ask for. (profile)
use Rattle.std.specs.Prelude.{ℕ, ◌==◌, Bool, false, ◌&&◌, ◌||◌, not, nat_eq, nat_lt, List, [], ◌∷◌, length, slice_index, String, string_bytes, codes}
use Rattle.std.specs.Global.{Global}
use Rattle.std.specs.Cmp.Lexicographic.{pointwise}

-- the word after the program's name is this one
abbrev pub asks : List ℕ → List (String Global) → Bool
asks name [] = false
asks name (program ∷ []) = false
asks name (program ∷ word ∷ rest) = pointwise nat_eq (string_bytes word) name

-- a word begins with a dash, and isn't the dash alone
abbrev pub is_option : List ℕ → Bool
is_option word = nat_lt 1 (length word) && (slice_index word 0 == 45)

-- the words are the program's name, this one and at most the name of a file
abbrev pub asks_alone : List ℕ → List (String Global) → Bool
asks_alone name [] = false
asks_alone name (program ∷ []) = false
asks_alone name (program ∷ word ∷ []) = pointwise nat_eq (string_bytes word) name
asks_alone name (program ∷ word ∷ file ∷ []) = pointwise nat_eq (string_bytes word) name && not (is_option (string_bytes file))
asks_alone name (program ∷ word ∷ file ∷ more ∷ rest) = false

-- the words are of a subcommand that reads a workload of standard input
abbrev pub reads_workload : List (String Global) → Bool
reads_workload words = asks (codes "loaded") words || asks (codes "live") words

-- the words are of a subcommand that reads the workload of a file, of either form
abbrev pub reads_file : List (String Global) → Bool
reads_file words = asks (codes "run") words || asks (codes "lint") words || asks (codes "trace") words || asks (codes "expand") words

-- the words are of a subcommand that reads standard input alone
abbrev pub reads_input_alone : List (String Global) → Bool
reads_input_alone words = asks (codes "once") words || asks (codes "loaded") words || asks (codes "live") words

-- the words are of a subcommand that reads a trace, and nothing follows it
abbrev pub names_no_trace : List (String Global) → Bool
names_no_trace words = (length words == 2) && (asks (codes "check") words || asks (codes "chart") words || asks (codes "stats") words)

-- the words say of themselves that standard input is read
abbrev pub reads_input : List (String Global) → Bool
reads_input words = reads_input_alone words || names_no_trace words

-- the words are of a subcommand that may write its answer to a file
abbrev pub writes_file : List (String Global) → Bool
writes_file words = asks (codes "chart") words || asks (codes "trace") words

-- the words are of a subcommand that shows a trace and judges none of its picks
abbrev pub shows_trace : List (String Global) → Bool
shows_trace words = asks (codes "chart") words || asks (codes "stats") words
