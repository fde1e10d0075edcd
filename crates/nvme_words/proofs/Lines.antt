-- Worked command lines, wherever the names of the formats lie and whatever strings the words are.
use Rattle.std.proofs.Common.{◌≡◌, ◌≢◌, ◌⊎◌, ◌∙◌, ◌<◌, ◌≤◌, ◌^◌, ◌+◌, ◌==◌, ◌&&◌, ◌||◌, not, cond, if◌then◌else◌, ℕ, Bool, true, false, List, [], ◌∷◌, length, Option, Some, None, String, map, string_bytes, unwrap_or, codes, refl, sym, ap, ap₂, subst, inl, inr, ⊎_elim, nat_eq, true≢false, arith, Err}
use Rattle.std.specs.Cmp.Lexicographic.{pointwise}
use Rattle.std.proofs.lemmas.List.{length-map}
use Rattle.std.specs.Global.{Global}
use Rattle.std.specs.Borrow.{Bor}
use Rattle.std.specs.Str.{bytes_eq}
use Rattle.std.specs.Str.Parse.{digits_value, without_leading_plus}
use Rattle.std.proofs.lemmas.Slice.Eq.{bytes_eq-Decides}
use Rattle.clap.specs.ValueTests.{accepts}
use Rattle.clap.specs.Walk.{is_empty, texts}
use Rattle.clap.specs.Words.{App, IsAmong, Kinds, Row, Text, kind_of, fault_of, one_of, subcommand_of}
use Rattle.clap.specs.declared.builder.value_parser.ValueParser.TheVariants as vp
use Rattle.clap.specs.declared.error.Error.{Error}
use Rattle.clap.specs.declared.error.kind.ErrorKind.{ErrorKind}
use Rattle.clap.specs.declared.error.kind.ErrorKind.TheVariants.{DisplayHelp, DisplayVersion}
use Rattle.clap.proofs.ValueTestLemmas.{accepts-Accepts}
use Rattle.nvme_words.specs.CommandLine.{AreFormats, Names, command_line}
use Rattle.nvme_words.specs.Examples.{AsksFor, HasFault, IsMemory, NamesFile, NamesOutput, OverLine, RefusesBy, ShowsText}
use Rattle.nvme_words.specs.Requests.{Given, IsAnswerTo, IsGivenBy, IsHelp, IsNumber, IsRequestOf, IsSaid, faults_of, file_given, given_by, value_given}
use Rattle.nvme_words.specs.Words.{asks, asks_alone, reads_input, writes_file}
use Rattle.nvme_words.specs.declared.requests.Request.{Request}
use Rattle.nvme_words.specs.declared.requests.Request.TheVariants as request
use Rattle.nvme_words.specs.declared.requests.WordsError.{WordsError}
use Rattle.nvme_words.specs.declared.requests.WordsError.TheVariants as error

abbrev pub Place : Type 0
Place = ℕ × ℕ

abbrev pub names_at : Place → Place → Place × Place → Names
names_at p q r = record {
  ref_ptr = p;
  now = (record { ref_ptr = q; now = codes "text" }) ∷ (record { ref_ptr = r.0; now = codes "json" }) ∷ (record { ref_ptr = r.1; now = codes "csv" }) ∷ [];
}

-- what holds wherever the names of the formats lie
pub over_names : (P : Names → Type 0) → ((p q : Place) (r : Place × Place) → P (names_at p q r)) → (names : Names) → AreFormats names → P names
over_names P at names are = go names.ref_ptr names.now are
  where
    go : (p : Place) (xs : List (Bor Text)) → texts xs ≡ codes "text" ∷ codes "json" ∷ codes "csv" ∷ [] → P (record { ref_ptr = p; now = xs })
    go p [] e = cc
    go p (x ∷ []) e = cc
    go p (x ∷ y ∷ []) e = cc
    go p (x ∷ y ∷ z ∷ []) e =
        let first : x.now ≡ codes "text" = cc in
        let second : y.now ≡ codes "json" = cc in
        let third : z.now ≡ codes "csv" = cc in
        subst (λ (a : Text). P (record { ref_ptr = p; now = (record { ref_ptr = x.ref_ptr; now = a }) ∷ y ∷ z ∷ [] })) (sym first)
        (subst (λ (b : Text). P (record { ref_ptr = p; now = (record { ref_ptr = x.ref_ptr; now = codes "text" }) ∷ (record { ref_ptr = y.ref_ptr; now = b }) ∷ z ∷ [] })) (sym second)
        (subst (λ (d : Text). P (record { ref_ptr = p; now = (record { ref_ptr = x.ref_ptr; now = codes "text" }) ∷ (record { ref_ptr = y.ref_ptr; now = codes "json" }) ∷ (record { ref_ptr = z.ref_ptr; now = d }) ∷ [] })) (sym third)
        (at p x.ref_ptr (y.ref_ptr, z.ref_ptr))))
    go p (w ∷ x ∷ y ∷ z ∷ zs) e = cc

-- the word after the program's name
second_asked : (words : List (String Global)) (name : Text) (rest : List Text) → map string_bytes words ≡ codes "nvmearb" ∷ name ∷ rest
    → asks name words ≡ true
second_asked [] name rest e = cc
second_asked (w ∷ []) name rest e = cc
second_asked (w ∷ x ∷ xs) name rest e =
    let same : string_bytes x ≡ name = cc in
    (bytes_eq-Decides (string_bytes x) name).1 same

-- the subcommand of a line with its values, in which the places of the names don't stand
abbrev pub given_at : List Text → Given
given_at line = unwrap_or (subcommand_of (command_line (names_at (0, 0) (0, 0) ((0, 0), (0, 0)))) (codes "nvmearb" ∷ line)) ([], [])

-- words with no fault that ask for something are refused only for memory
asks_so : (app : App) (words : List (String Global)) (request : Request) → faults_of app words ≡ []
    → IsGivenBy words (given_by app words) request → (e : WordsError) → IsMemory e ⊎ (IsAnswerTo app words (Err e) → ⊥)
asks_so app words request none given (error.CommandLine text) = inr (λ answer. subst (IsAmong (kind_of text)) none answer.0)
asks_so app words request none given error.OtherWord = inr (λ answer. answer.1 request given)
asks_so app words request none given (error.NoMemory why) = inl tt

-- what holds of an error for all words of a line
for_all : (line : List Text) (e : WordsError) → OverLine line (λ app words. IsMemory e ⊎ (IsAnswerTo app words (Err e) → ⊥))
    → IsMemory e ⊎ OverLine line (λ app words. IsAnswerTo app words (Err e) → ⊥)
for_all line (error.NoMemory why) h = inl tt
for_all line (error.CommandLine text) h = inr (λ names are words e answer. ⊎_elim (λ no. no) (λ k. k answer) (h names are words e))
for_all line error.OtherWord h = inr (λ names are words e answer. ⊎_elim (λ no. no) (λ k. k answer) (h names are words e))

-- what a line with a subcommand asks for
pub line_asks : (name : Text) (rest : List Text) (given : Given) (request : Request) → given.0 ≡ name → IsRequestOf given request
    → ((words : List (String Global)) → map string_bytes words ≡ codes "nvmearb" ∷ name ∷ rest → IsSaid words request)
    → ((p q : Place) (r : Place × Place) → (fault_of (command_line (names_at p q r)) (codes "nvmearb" ∷ name ∷ rest) ≡ [])
    × (subcommand_of (command_line (names_at p q r)) (codes "nvmearb" ∷ name ∷ rest) ≡ Some given))
    → AsksFor (name ∷ rest) request
line_asks name rest given request is of said at =
    let both : OverLine (name ∷ rest) (λ app words. (faults_of app words ≡ []) × IsGivenBy words (given_by app words) request) =
    over_names _ (λ p q r words e. (
      ap (fault_of (command_line (names_at p q r))) e ∙ (at p q r).0,
      subst (λ g. IsGivenBy words g request) (sym (ap (subcommand_of (command_line (names_at p q r))) e ∙ (at p q r).1))
          (ap (λ n. asks n words) is ∙ second_asked words name rest e, of, said words e),
    )) in (
      (λ names are words e. inl (both names are words e)),
      (λ e. for_all (name ∷ rest) e (λ names are words same.
          let h = both names are words same in asks_so (command_line names) words request h.0 h.1 e)),
    )

-- a number in the digits of an option
pub number_of : (bits high : ℕ) (id text : Text) (rows : List Row) → one_of id rows ≡ Some text
    → accepts false (vp.Unsigned 0 high) text ≡ true → high < 2 ^ bits
    → IsNumber bits id rows (digits_value 10 (without_leading_plus text))
number_of bits high id text rows some passes fits =
    let in_range = accepts-Accepts false (vp.Unsigned 0 high) text passes in
    let most : digits_value 10 (without_leading_plus text) ≤ high = in_range.3 in
    (text, some, in_range.0, omega (arith, most, fits), refl)

-- a value that is this text isn't that one
pub other_text : (o : Option Text) (a b : Text) → o ≡ Some a → bytes_eq a b ≡ false → o ≢ Some b
other_text o a b is other too =
    let same : a ≡ b = ap (λ (x : Option Text). unwrap_or x a) (sym is ∙ too) in
    true≢false (sym ((bytes_eq-Decides a b).1 same) ∙ other)

pub some_text : (o : Option Text) (a : Text) → o ≡ Some a → o ≢ None
some_text o a is none = cc

pub line_fault : (line : List Text) (kind : ErrorKind)
    → ((p q : Place) (r : Place × Place) → fault_of (command_line (names_at p q r)) (codes "nvmearb" ∷ line) ≡ kind ∷ []) → HasFault line kind
line_fault line kind at = over_names _ (λ p q r words e. ap (fault_of (command_line (names_at p q r))) e ∙ at p q r)

-- whether a line says of itself that standard input is read
abbrev pub reads_line : Text → List Text → Bool
reads_line name rest =
    (pointwise nat_eq name (codes "once") || pointwise nat_eq name (codes "loaded") || pointwise nat_eq name (codes "live"))
    || ((length rest + 2 == 2) && (pointwise nat_eq name (codes "check") || pointwise nat_eq name (codes "chart") || pointwise nat_eq name (codes "stats")))

line_reads : (words : List (String Global)) (name : Text) (rest : List Text) → map string_bytes words ≡ codes "nvmearb" ∷ name ∷ rest
    → reads_input words ≡ reads_line name rest
line_reads [] name rest e = cc
line_reads (w ∷ []) name rest e = cc
line_reads (w ∷ x ∷ xs) name rest e =
    let same : string_bytes x ≡ name = cc in
    let left : map string_bytes xs ≡ rest = cc in
    let long : length xs ≡ length rest = sym (length-map xs string_bytes) ∙ ap length left in
    let two : (length (w ∷ x ∷ xs) == 2) ≡ (length rest + 2 == 2) = ap (λ n. n == 2) (omega (arith, long)) in
    rw (same, two) refl

-- the file that a line with a subcommand names
abbrev pub file_at : Place → Place → Place × Place → Text → List Text → Option Text
file_at p q r name rest =
    if reads_line name rest || not (is_empty (fault_of (command_line (names_at p q r)) (codes "nvmearb" ∷ name ∷ rest))) then None
    else file_given (subcommand_of (command_line (names_at p q r)) (codes "nvmearb" ∷ name ∷ rest))

pub line_names : (name : Text) (rest : List Text) (file : Option Text) → ((p q : Place) (r : Place × Place) → file_at p q r name rest ≡ file)
    → NamesFile (name ∷ rest) file
line_names name rest file at = over_names _ (λ p q r words e.
    ap₂ (λ (input : Bool) (line : List Text). cond (input || not (is_empty (fault_of (command_line (names_at p q r)) line))) None
    (file_given (subcommand_of (command_line (names_at p q r)) line))) (line_reads words name rest e) e ∙ at p q r)

-- the file that a line with a subcommand names for the output
abbrev pub output_at : Place → Place → Place × Place → Text → List Text → Option Text
output_at p q r name rest =
    if not (pointwise nat_eq name (codes "chart") || pointwise nat_eq name (codes "trace")) || not (is_empty (fault_of (command_line (names_at p q r)) (codes "nvmearb" ∷ name ∷ rest))) then None
    else value_given (codes "output") (subcommand_of (command_line (names_at p q r)) (codes "nvmearb" ∷ name ∷ rest))

line_word : (words : List (String Global)) (name : Text) (rest : List Text) → map string_bytes words ≡ codes "nvmearb" ∷ name ∷ rest
    → writes_file words ≡ (pointwise nat_eq name (codes "chart") || pointwise nat_eq name (codes "trace"))
line_word [] name rest e = cc
line_word (w ∷ []) name rest e = cc
line_word (w ∷ x ∷ xs) name rest e = let same : string_bytes x ≡ name = cc in rw same refl

pub line_outputs : (name : Text) (rest : List Text) (file : Option Text) → ((p q : Place) (r : Place × Place) → output_at p q r name rest ≡ file)
    → NamesOutput (name ∷ rest) file
line_outputs name rest file at = over_names _ (λ p q r words e.
    ap₂ (λ (written : Bool) (line : List Text). cond (not written || not (is_empty (fault_of (command_line (names_at p q r)) line))) None
    (value_given (codes "output") (subcommand_of (command_line (names_at p q r)) line))) (line_word words name rest e) e ∙ at p q r)

-- ---- texts

no_check : (words : List (String Global)) (name : Text) → map string_bytes words ≡ codes "nvmearb" ∷ name ∷ []
    → pointwise nat_eq name (codes "check") ≡ false → asks_alone (codes "check") words ≡ false
no_check [] name e other = refl
no_check (w ∷ []) name e other = refl
no_check (w ∷ x ∷ []) name e other = let same : string_bytes x ≡ name = cc in rw same other
no_check (w ∷ x ∷ y ∷ zs) name e other = cc

no_help_given : (words : List (String Global)) (given : Option Given) (text : Error) → IsGivenBy words given (request.Help text) → ⊥
no_help_given words None text h = h
no_help_given words (Some given) text h = h.1

among_one : (k kind : ErrorKind) (kinds : Kinds) → kinds ≡ kind ∷ [] → k ≡ kind → IsAmong k kinds
among_one k kind kinds e same = rw e (inl same)

pub line_shows : (word : Text) (kind : ErrorKind) → (kind ≡ DisplayHelp) ⊎ (kind ≡ DisplayVersion)
    → pointwise nat_eq word (codes "check") ≡ false → HasFault (word ∷ []) kind → ShowsText (word ∷ []) kind
line_shows word kind shown other fault text is =
    let help : (words : List (String Global)) → map string_bytes words ≡ codes "nvmearb" ∷ word ∷ [] → IsHelp words (kind_of text) =
    λ words e. (⊎_elim (λ k. inl (is ∙ k)) (λ k. inr (is ∙ k)) shown, no_check words word e other) in (
      (λ names are words e. inr (among_one (kind_of text) kind _ (fault names are words e) is, help words e)),
      (λ names are words e answer. answer.1 (help words e)),
    )

no_fault : (kind : ErrorKind) (kinds : Kinds) → kinds ≡ kind ∷ [] → kinds ≡ [] → ⊥
no_fault kind kinds one none = let bad : kind ∷ [] ≡ [] = sym one ∙ none in cc

pub line_refuses : (line : List Text) (kind : ErrorKind) → kind ≢ DisplayHelp → kind ≢ DisplayVersion → HasFault line kind
    → RefusesBy line kind
line_refuses line kind help version fault text is =
    let other : (words : List (String Global)) → IsHelp words (kind_of text) → ⊥ =
    λ words h. ⊎_elim (λ k. help (sym is ∙ k)) (λ k. version (sym is ∙ k)) h.0 in (
      (λ names are words e. (among_one (kind_of text) kind _ (fault names are words e) is, other words)),
      (λ names are words e answer. ⊎_elim (λ h. no_help_given words _ text h.1) (λ h. other words h.1) answer),
      (λ names are words e answer. no_fault kind _ (fault names are words e) answer.0),
    )
