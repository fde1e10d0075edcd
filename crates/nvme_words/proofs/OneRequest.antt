-- A subcommand with its values asks for one thing: the request that is picked by its name.
use Rattle.std.proofs.Common.{◌<◌, ◌≤◌, nat_lt, ◌^◌, unwrap_or, subst, ◌≡◌, ◌≢◌, ◌∙◌, if◌then◌else◌, cond, ℕ, Bool, true, false, List, Option, Some, None, codes, refl, sym, ap, ap₂, inl, inr, ⊎_elim}
use Rattle.std.proofs.lemmas.Bool.{le-ltb, lt-ltb}
use Rattle.std.proofs.lemmas.Slice.Eq.{bytes_eq-Decides}
use Rattle.std.specs.Option.{option_map_or}
use Rattle.std.specs.Str.{bytes_eq}
use Rattle.std.specs.Str.Parse.{IsNumeral, digits_value, without_leading_plus}
use Rattle.clap.specs.Words.{Row, Text, first_of, one_of}
use Rattle.nvme_words.specs.Examples.{AsksForNothing, AsksForOneThing}
use Rattle.nvme_words.specs.Requests.{AreNumbers, Given, IsDrawing, IsFlag, IsFormat, IsNumber, IsRange, IsRequestOf, SubmitsBy, settings_given}
use Rattle.nvme_words.specs.declared.requests.Format.{Format}
use Rattle.nvme_words.specs.declared.requests.Format.TheVariants as format
use Rattle.nvme_words.specs.declared.requests.Numbers.{Numbers}
use Rattle.nvme_words.specs.declared.requests.OptionsFault.TheVariants as unfit
use Rattle.nvme_words.specs.declared.requests.Range.{Range}
use Rattle.nvme_words.specs.declared.requests.Drawing.{Drawing}
use Rattle.nvme_words.specs.declared.requests.Request.{Request}
use Rattle.nvme_words.specs.declared.requests.Request.TheVariants as request
use Rattle.nvme_lane.specs.declared.mode.Mode.{Mode}
use Rattle.nvme_lane.specs.declared.mode.Mode.TheVariants.{Loaded, Live}
use Rattle.nvme_words.proofs.Reading.{apart, no_blocks, no_workers}

abbrev number_in : Text → List Row → ℕ
number_in id rows = option_map_or (λ text. digits_value 10 (without_leading_plus text)) (one_of id rows) 0

number_is : (bits : ℕ) (id : Text) (rows : List Row) (n : ℕ) → IsNumber bits id rows n → n ≡ number_in id rows
number_is bits id rows n number =
    number.4 ∙ ap (λ o. option_map_or (λ (text : Text). digits_value 10 (without_leading_plus text)) o 0) (sym number.1)

abbrev is_text : Text → Option Text → Bool
is_text name text = option_map_or (λ t. bytes_eq t name) text false

abbrev format_for : Bool → Bool → Format
format_for json csv = cond json format.Json (cond csv format.Csv format.Text)

abbrev format_in : List Row → Format
format_in rows = format_for (is_text (codes "json") (first_of (codes "format") rows)) (is_text (codes "csv") (first_of (codes "format") rows))

other_text : (name : Text) (text : Option Text) → text ≢ Some name → is_text name text ≡ false
other_text name None other = refl
other_text name (Some t) other = go (bytes_eq t name) refl
  where
    go : (b : Bool) → bytes_eq t name ≡ b → bytes_eq t name ≡ false
    go false e = e
    go true e = absurd (other (ap (λ (x : Text). Some x) ((bytes_eq-Decides t name).0 e)))

format_is : (rows : List Row) (f : Format) → IsFormat rows f → f ≡ format_in rows
format_is rows format.Json is = rw is refl
format_is rows format.Csv is = rw is refl
format_is rows format.Text other = ap₂ format_for (sym (other_text (codes "json") _ other.0)) (sym (other_text (codes "csv") _ other.1))

flag_is : (id : Text) (rows : List Row) (b : Bool) → IsFlag id rows b → b ≡ is_text (codes "true") (first_of id rows)
flag_is id rows true is = rw is refl
flag_is id rows false other = sym (other_text (codes "true") _ other)

abbrev range_from : ℕ → ℕ → Range
range_from first last = record { first = first; last = last }

abbrev range_in : List Row → Range
range_in rows = range_from (number_in (codes "from") rows) (number_in (codes "to") rows)

range_is : (rows : List Row) (range : Range) → IsRange rows range → range ≡ range_in rows
range_is rows range is =
    let one = number_is 64 (codes "from") rows range.first is.0 in
    let two = number_is 64 (codes "to") rows range.last is.1 in ap₂ range_from one two

abbrev drawing_from : Range → Bool → Drawing
drawing_from range no_admin = record { range = range; no_admin = no_admin }

abbrev drawing_in : List Row → Drawing
drawing_in rows = drawing_from (range_in rows) (is_text (codes "true") (first_of (codes "no-admin") rows))

drawing_is : (rows : List Row) (drawing : Drawing) → IsDrawing rows drawing → drawing ≡ drawing_in rows
drawing_is rows drawing is =
    ap₂ drawing_from (range_is rows drawing.range is.0) (flag_is (codes "no-admin") rows drawing.no_admin is.1)

abbrev numbers_from : Range → ℕ → Bool → Format → Numbers
numbers_from range window backlogged format = record { range = range; window = window; backlogged = backlogged; format = format }

abbrev numbers_in : List Row → Numbers
numbers_in rows =
    numbers_from (range_in rows) (number_in (codes "window") rows) (is_text (codes "true") (first_of (codes "backlogged") rows)) (format_in rows)

numbers_are : (rows : List Row) (numbers : Numbers) → AreNumbers rows numbers → numbers ≡ numbers_in rows
numbers_are rows numbers are =
    let one = range_is rows numbers.range are.0 in
    let two = number_is 64 (codes "window") rows numbers.window are.1 in
    let three = flag_is (codes "backlogged") rows numbers.backlogged are.2 in
    let four = format_is rows numbers.format are.3 in
    ap₂ (λ (r : Range) (w : ℕ). numbers_from r w numbers.backlogged numbers.format) one two
    ∙ ap₂ (λ (b : Bool) (f : Format). numbers_from (range_in rows) (number_in (codes "window") rows) b f) three four

abbrev check_for : Bool → Bool → Request
check_for spec all = cond spec (cond all (request.Unfit unfit.AllOfSpec) request.CheckSpec) (cond all request.CheckAll request.Check)

-- a request for the picks in a range, unless it ends before it begins
abbrev within : Range → Request → Request
within range r = cond (nat_lt range.last range.first) (request.Unfit (unfit.Behind range)) r

is_within : (range : Range) (r : Request) → range.first ≤ range.last → r ≡ within range r
is_within range r least = ap (λ (b : Bool). cond b (request.Unfit (unfit.Behind range)) r) (sym (le-ltb range.last range.first least))

is_behind : (range : Range) (r : Request) → range.last < range.first → request.Unfit (unfit.Behind range) ≡ within range r
is_behind range r behind = ap (λ (b : Bool). cond b (request.Unfit (unfit.Behind range)) r) (sym (lt-ltb range.last range.first behind))

abbrev chart_for : Drawing → Request
chart_for drawing = within drawing.range (request.Chart drawing)

abbrev stats_for : Numbers → Request
stats_for numbers = within numbers.range (request.Stats numbers)

abbrev picked : Given → Mode → Request
picked given when =
    if bytes_eq given.0 (codes "once") then request.Once (number_in (codes "blocks") given.1)
    else if bytes_eq given.0 (codes "loaded") then request.Run Loaded (number_in (codes "workers") given.1)
    else if bytes_eq given.0 (codes "live") then request.Run Live (number_in (codes "workers") given.1)
    else if bytes_eq given.0 (codes "run") then request.RunFile when (number_in (codes "workers") given.1)
    else if bytes_eq given.0 (codes "lint") then request.Lint
    else if bytes_eq given.0 (codes "expand") then request.Expand
    else if bytes_eq given.0 (codes "check") then check_for (is_text (codes "true") (first_of (codes "spec") given.1)) (is_text (codes "true") (first_of (codes "all") given.1))
    else if bytes_eq given.0 (codes "trace") then request.Trace when (number_in (codes "workers") given.1)
    else if bytes_eq given.0 (codes "chart") then chart_for (drawing_in given.1)
    else if bytes_eq given.0 (codes "stats") then stats_for (numbers_in given.1)
    else request.Settings (settings_given given.1)

module _ (given : Given) (when : Mode) (only : (w : Mode) → SubmitsBy given.1 w → w ≡ when) where
  is_picked : (r : Request) → IsRequestOf given r → r ≡ picked given when
  is_picked (request.Once n) h = rw h.0 (ap request.Once (number_is 64 (codes "blocks") given.1 n h.1))
  is_picked (request.Run w n) h = ⊎_elim
      (λ k. rw (k.0, k.1) (ap (request.Run Loaded) (number_is 8 (codes "workers") given.1 n h.1)))
      (λ k. rw (k.0, k.1) (ap (request.Run Live) (number_is 8 (codes "workers") given.1 n h.1)))
      h.0
  is_picked (request.RunFile w n) h = rw h.0 (ap₂ request.RunFile (only w h.1) (number_is 8 (codes "workers") given.1 n h.2))
  is_picked request.Lint h = rw h refl
  is_picked request.Expand h = rw h refl
  is_picked request.Check h = rw h.0 (ap₂ check_for (flag_is (codes "spec") given.1 false h.1) (flag_is (codes "all") given.1 false h.2))
  is_picked request.CheckSpec h = rw h.0 (ap₂ check_for (flag_is (codes "spec") given.1 true h.1) (flag_is (codes "all") given.1 false h.2))
  is_picked request.CheckAll h = rw h.0 (ap₂ check_for (flag_is (codes "spec") given.1 false h.1) (flag_is (codes "all") given.1 true h.2))
  is_picked (request.Trace w n) h = rw h.0 (ap₂ request.Trace (only w h.1) (number_is 8 (codes "workers") given.1 n h.2))
  is_picked (request.Chart drawing) h =
      rw h.0 (is_within drawing.range (request.Chart drawing) h.2 ∙ ap chart_for (drawing_is given.1 drawing h.1))
  is_picked (request.Stats numbers) h = rw h.0 (is_within numbers.range (request.Stats numbers) h.2 ∙ ap stats_for (numbers_are given.1 numbers h.1))
  is_picked (request.Settings reading) h = rw h.0 (ap request.Settings h.1)
  is_picked (request.Unfit unfit.AllOfSpec) h = rw h.0 (ap₂ check_for (flag_is (codes "spec") given.1 true h.1) (flag_is (codes "all") given.1 true h.2))
  is_picked (request.Unfit (unfit.Behind range)) (behind, inl h) =
      let no_admin = is_text (codes "true") (first_of (codes "no-admin") given.1) in
      rw h.0 (is_behind range (request.Chart (drawing_from range no_admin)) behind
      ∙ ap (λ (r : Range). chart_for (drawing_from r no_admin)) (range_is given.1 range h.1))
  is_picked (request.Unfit (unfit.Behind range)) (behind, inr h) =
      let numbers : Numbers = h.1 in
      let same : numbers.range ≡ range = h.3 in
      let late : numbers.range.last < numbers.range.first = subst (λ (r : Range). r.last < r.first) (sym same) behind in
      rw h.0 (ap (λ (r : Range). request.Unfit (unfit.Behind r)) (sym same)
      ∙ (is_behind numbers.range (request.Stats numbers) late ∙ ap stats_for (numbers_are given.1 numbers h.2)))
  is_picked (request.Help text) h = absurd h

  both_picked : (r s : Request) → IsRequestOf given r → IsRequestOf given s → r ≡ s
  both_picked r s h k = is_picked r h ∙ sym (is_picked s k)

on : (rows : List Row) → one_of (codes "live") rows ≡ Some (codes "true") → (w : Mode) → SubmitsBy rows w → w ≡ Live
on rows is Loaded other = absurd (other is)
on rows is Live h = refl

off : (rows : List Row) → one_of (codes "live") rows ≡ Some (codes "false") → (w : Mode) → SubmitsBy rows w → w ≡ Loaded
off rows is Loaded h = refl
off rows is Live h = absurd (h.1 is)

left_out : (rows : List Row) → one_of (codes "live") rows ≡ None → (w : Mode) → SubmitsBy rows w → w ≡ Loaded
left_out rows is Loaded h = refl
left_out rows is Live h = absurd (h.0 is)

pub one_request : AsksForOneThing
one_request given r s (inl is) h k = both_picked given Live (on given.1 is) r s h k
one_request given r s (inr (inl is)) h k = both_picked given Loaded (off given.1 is) r s h k
one_request given r s (inr (inr is)) h k = both_picked given Loaded (left_out given.1 is) r s h k

-- ---- where the value isn't a number

text_of : (bits : ℕ) (id : Text) (rows : List Row) (n : ℕ) (text : Text) → one_of id rows ≡ Some text → IsNumber bits id rows n
    → IsNumeral 10 (without_leading_plus text) × (digits_value 10 (without_leading_plus text) < 2 ^ bits)
text_of bits id rows n text is number =
    let same : number.0 ≡ text = ap (λ (o : Option Text). unwrap_or o text) (sym number.1 ∙ is) in
    subst (λ (t : Text). IsNumeral 10 (without_leading_plus t) × (digits_value 10 (without_leading_plus t) < 2 ^ bits)) same (number.2, number.3)

no_number : (bits : ℕ) (id : Text) (rows : List Row) (n : ℕ) (text : Text)
    → (IsNumeral 10 (without_leading_plus text) × (digits_value 10 (without_leading_plus text) < 2 ^ bits) → ⊥)
    → one_of id rows ≡ Some text → IsNumber bits id rows n → ⊥
no_number bits id rows n text none is number = none (text_of bits id rows n text is number)

pub none_of_once : (text : Text) → (IsNumeral 10 (without_leading_plus text) × (digits_value 10 (without_leading_plus text) < 2 ^ 64) → ⊥)
    → AsksForNothing (codes "once") (codes "blocks") text
none_of_once text none given name is = no_blocks given name (λ n. no_number 64 (codes "blocks") given.1 n text none is)

pub none_of_workers : (name text : Text) → bytes_eq name (codes "once") ≡ false → bytes_eq name (codes "lint") ≡ false → bytes_eq name (codes "expand") ≡ false
    → bytes_eq name (codes "check") ≡ false → bytes_eq name (codes "chart") ≡ false → bytes_eq name (codes "stats") ≡ false
    → bytes_eq name (codes "settings") ≡ false → (IsNumeral 10 (without_leading_plus text) × (digits_value 10 (without_leading_plus text) < 2 ^ 8) → ⊥)
    → AsksForNothing name (codes "workers") text
none_of_workers name text once lint expand check chart stats settings none given same is = no_workers given
    (apart given.0 name (codes "once") once same) (apart given.0 name (codes "lint") lint same) (apart given.0 name (codes "expand") expand same) (apart given.0 name (codes "check") check same)
    (apart given.0 name (codes "chart") chart same) (apart given.0 name (codes "stats") stats same) (apart given.0 name (codes "settings") settings same)
    (λ n. no_number 8 (codes "workers") given.1 n text none is)
