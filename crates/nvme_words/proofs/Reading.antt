-- What is read of the matches, by their rows.
use Rattle.std.proofs.Common.{◌≡◌, ◌≢◌, ◌∙◌, ℕ, false, List, Option, Some, None, Result, Ok, Err, codes, refl, sym, true≢false, ⊎_elim}
use Rattle.std.proofs.lemmas.Slice.Eq.{bytes_eq-Decides}
use Rattle.std.specs.Str.{bytes_eq}
use Rattle.std.specs.Str.Parse.{ParsesUnsigned}
use Rattle.clap.specs.Words.{ReadsOne, Text, found_of, one_text, rows_of}
use Rattle.clap.specs.declared.parser.matches.ArgMatches.{ArgMatches}
use Rattle.clap.proofs.WalkLemmas.{one_text-rows}
use Rattle.nvme_words.specs.declared.requests.Numbers.{Numbers}
use Rattle.nvme_words.specs.declared.requests.OptionsFault.TheVariants as unfit
use Rattle.nvme_words.specs.declared.requests.Range.{Range}
use Rattle.nvme_words.specs.declared.requests.Request.{Request}
use Rattle.nvme_words.specs.declared.requests.Request.TheVariants as request
use Rattle.nvme_words.specs.Requests.{AreNumbers, Given, IsNumber, IsRange, IsRequestOf}
use Rattle.nvme_words.specs.inside.Found.{IsNumberIfAny}

-- a number is read of the text that it parses from
pub number_read : {E : Type 0} (bits : ℕ) (m : ArgMatches) (id : Text) (gives : List ℕ → Result ℕ E → Type 0) (result : Option ℕ)
    → ((text : List ℕ) (parsed : Result ℕ E) → gives text parsed → ParsesUnsigned bits 10 text parsed)
    → (one_text (found_of m) id ≡ None → result ≡ None)
    → ((text : List ℕ) → one_text (found_of m) id ≡ Some text → ReadsOne gives text result)
    → IsNumberIfAny bits id (rows_of (found_of m)) result
number_read bits m id gives (Some n) parses none value = go (one_text (found_of m) id) refl
  where
    go : (o : Option Text) → one_text (found_of m) id ≡ o → IsNumber bits id (rows_of (found_of m)) n
    go None e = let bad = none e in cc
    go (Some text) e =
        let parsed = parses text (Ok n) (value text e) in
        (text, sym (one_text-rows (found_of m) id) ∙ e, parsed.0.0, parsed.0.1, parsed.1)
number_read bits m id gives None parses none value = λ n number.
    let read = value number.0 (one_text-rows (found_of m) id ∙ number.1) in
    parses number.0 (Err read.0) read.1 (number.2, number.3)

-- a name that is one text isn't another
pub apart : (name a b : Text) → bytes_eq a b ≡ false → name ≡ a → name ≡ b → ⊥
apart name a b differ is too = true≢false (sym ((bytes_eq-Decides a b).1 (sym is ∙ too)) ∙ differ)

-- where there is no number of blocks, `once` asks for nothing
pub no_blocks : (given : Given) → given.0 ≡ codes "once" → ((n : ℕ) → IsNumber 64 (codes "blocks") given.1 n → ⊥)
    → (r : Request) → IsRequestOf given r → ⊥
no_blocks given is none = go
  where
    not : (b : Text) → bytes_eq (codes "once") b ≡ false → given.0 ≡ b → ⊥
    not b differ = apart given.0 (codes "once") b differ is

    go : (r : Request) → IsRequestOf given r → ⊥
    go (request.Once blocks) h = none blocks h.1
    go (request.Run when workers) h =
        ⊎_elim (λ e. not (codes "loaded") refl e.0) (λ e. not (codes "live") refl e.0) h.0
    go (request.RunFile when workers) h = not (codes "run") refl h.0
    go request.Lint h = not (codes "lint") refl h
    go request.Expand h = not (codes "expand") refl h
    go request.Check h = not (codes "check") refl h.0
    go request.CheckSpec h = not (codes "check") refl h.0
    go request.CheckAll h = not (codes "check") refl h.0
    go (request.Trace when workers) h = not (codes "trace") refl h.0
    go (request.Chart drawing) h = not (codes "chart") refl h.0
    go (request.Stats numbers) h = not (codes "stats") refl h.0
    go (request.Settings reading) h = not (codes "settings") refl h.0
    go (request.Unfit unfit.AllOfSpec) h = not (codes "check") refl h.0
    go (request.Unfit (unfit.Behind range)) h =
        ⊎_elim (λ e. not (codes "chart") refl e.0) (λ e. not (codes "stats") refl e.0) h.1
    go (request.Help text) h = h

-- where there is no range, `chart` asks for nothing
pub no_range : (given : Given) → given.0 ≡ codes "chart" → ((range : Range) → IsRange given.1 range → ⊥)
    → (r : Request) → IsRequestOf given r → ⊥
no_range given is none = go
  where
    not : (b : Text) → bytes_eq (codes "chart") b ≡ false → given.0 ≡ b → ⊥
    not b differ = apart given.0 (codes "chart") b differ is

    go : (r : Request) → IsRequestOf given r → ⊥
    go (request.Once blocks) h = not (codes "once") refl h.0
    go (request.Run when workers) h =
        ⊎_elim (λ e. not (codes "loaded") refl e.0) (λ e. not (codes "live") refl e.0) h.0
    go (request.RunFile when workers) h = not (codes "run") refl h.0
    go request.Lint h = not (codes "lint") refl h
    go request.Expand h = not (codes "expand") refl h
    go request.Check h = not (codes "check") refl h.0
    go request.CheckSpec h = not (codes "check") refl h.0
    go request.CheckAll h = not (codes "check") refl h.0
    go (request.Trace when workers) h = not (codes "trace") refl h.0
    go (request.Chart drawing) h = none drawing.range h.1.0
    go (request.Stats numbers) h = not (codes "stats") refl h.0
    go (request.Settings reading) h = not (codes "settings") refl h.0
    go (request.Unfit unfit.AllOfSpec) h = not (codes "check") refl h.0
    go (request.Unfit (unfit.Behind range)) h =
        ⊎_elim (λ e. none range e.1) (λ e. not (codes "stats") refl e.0) h.1
    go (request.Help text) h = h

-- where there are no numbers, `stats` asks for nothing
pub no_numbers : (given : Given) → given.0 ≡ codes "stats" → ((numbers : Numbers) → AreNumbers given.1 numbers → ⊥)
    → (r : Request) → IsRequestOf given r → ⊥
no_numbers given is none = go
  where
    not : (b : Text) → bytes_eq (codes "stats") b ≡ false → given.0 ≡ b → ⊥
    not b differ = apart given.0 (codes "stats") b differ is

    go : (r : Request) → IsRequestOf given r → ⊥
    go (request.Once blocks) h = not (codes "once") refl h.0
    go (request.Run when workers) h =
        ⊎_elim (λ e. not (codes "loaded") refl e.0) (λ e. not (codes "live") refl e.0) h.0
    go (request.RunFile when workers) h = not (codes "run") refl h.0
    go request.Lint h = not (codes "lint") refl h
    go request.Expand h = not (codes "expand") refl h
    go request.Check h = not (codes "check") refl h.0
    go request.CheckSpec h = not (codes "check") refl h.0
    go request.CheckAll h = not (codes "check") refl h.0
    go (request.Trace when workers) h = not (codes "trace") refl h.0
    go (request.Chart drawing) h = not (codes "chart") refl h.0
    go (request.Stats numbers) h = none numbers h.1
    go (request.Settings reading) h = not (codes "settings") refl h.0
    go (request.Unfit unfit.AllOfSpec) h = not (codes "check") refl h.0
    go (request.Unfit (unfit.Behind range)) h =
        ⊎_elim (λ e. not (codes "chart") refl e.0) (λ e. none e.1 e.2) h.1
    go (request.Help text) h = h

-- where there is no number of workers, no run is asked for
pub no_workers : (given : Given) → given.0 ≢ codes "once" → given.0 ≢ codes "lint" → given.0 ≢ codes "expand" → given.0 ≢ codes "check" → given.0 ≢ codes "chart"
    → given.0 ≢ codes "stats" → given.0 ≢ codes "settings" → ((n : ℕ) → IsNumber 8 (codes "workers") given.1 n → ⊥) → (r : Request) → IsRequestOf given r → ⊥
no_workers given once lint expand check chart stats settings none (request.Once blocks) h = once h.0
no_workers given once lint expand check chart stats settings none (request.Run when workers) h = none workers h.1
no_workers given once lint expand check chart stats settings none (request.RunFile when workers) h = none workers h.2
no_workers given once lint expand check chart stats settings none request.Lint h = lint h
no_workers given once lint expand check chart stats settings none request.Expand h = expand h
no_workers given once lint expand check chart stats settings none request.Check h = check h.0
no_workers given once lint expand check chart stats settings none request.CheckSpec h = check h.0
no_workers given once lint expand check chart stats settings none request.CheckAll h = check h.0
no_workers given once lint expand check chart stats settings none (request.Trace when workers) h = none workers h.2
no_workers given once lint expand check chart stats settings none (request.Chart drawing) h = chart h.0
no_workers given once lint expand check chart stats settings none (request.Stats numbers) h = stats h.0
no_workers given once lint expand check chart stats settings none (request.Settings reading) h = settings h.0
no_workers given once lint expand check chart stats settings none (request.Unfit unfit.AllOfSpec) h = check h.0
no_workers given once lint expand check chart stats settings none (request.Unfit (unfit.Behind range)) h = ⊎_elim (λ e. chart e.0) (λ e. stats e.0) h.1
no_workers given once lint expand check chart stats settings none (request.Help text) h = h
