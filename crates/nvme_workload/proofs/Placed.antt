-- A flaw of a document is the first fault of its bytes, and is told at its place.
use Rattle.std.proofs.Common.{◌≡◌, ℕ, ◌≤◌, true, false, List, take, sym, subst, refl, ap, ◌∙◌, arith, Some, None, Ok, Err, Result}
use Rattle.std.specs.Prelude.{IfErr, IfOk, IsUtf8}
use Rattle.std.specs.Str.{is_utf8, IsValidUpTo}
use Rattle.toml.specs.declared.de.error.Error.{Error}
use Rattle.toml.specs.Data.{Members}
use Rattle.toml.specs.Errors.{span_start, IsWithin}
use Rattle.toml.specs.Parse.{parse_document}
use Rattle.nvme_workload.specs.declared.error.WorkloadError.{WorkloadError}
use Rattle.nvme_workload.specs.declared.error.WorkloadError.TheVariants as fault
use Rattle.nvme_workload.specs.declared.fault.ReadError.{ReadError}
use Rattle.nvme_workload.specs.declared.fault.ReadError.TheVariants as told
use Rattle.nvme_workload.specs.declared.fault.Why.{Why}
use Rattle.nvme_workload.specs.declared.fault.Why.TheVariants as why
use Rattle.nvme_workload.specs.declared.flaw.Flaw.{Flaw}
use Rattle.nvme_workload.specs.declared.flaw.Flaw.TheVariants as flaw
use Rattle.nvme_workload.specs.declared.flaw.PlanError.TheVariants.{At}
use Rattle.nvme_workload.specs.declared.place.Place.{Place}
use Rattle.nvme_workload.specs.declared.place.Place.TheVariants as place
use Rattle.nvme_workload.specs.declared.place.Spot.{Spot}
use Rattle.nvme_workload.specs.declared.plan.Workload.{Workload}
use Rattle.nvme_workload.specs.Places.{IsBehindSyntax, IsFlawOf, IsPlaced, IsPlaceIn, IsToldOf, TellsFault, TellsPlace, place_behind}
use Rattle.nvme_workload.specs.Plan.{Plan, plan_of, fault_of, reading_of, plan_in, plan_of_text, workload_of}
use Rattle.nvme_workload.specs.Readings.{Fails}
use Rattle.nvme_workload.specs.inside.Telling.{IsToldAs, IsToldIn, IsToldOfBytes, IsToldOfSyntax, IsToldOfTable}

-- ---- without the place

pub plan_of_reading : (table : Members) (plan : Plan) → reading_of table ≡ Ok plan → plan_in table ≡ Ok plan
unfolding plan_in
plan_of_reading table plan is = rw is refl

pub fault_of_reading : (table : Members) (spot : Spot) (f : Flaw) → reading_of table ≡ Err (At spot f) → plan_in table ≡ Err (fault_of f)
unfolding plan_in
fault_of_reading table spot f is = rw is refl

fails_by : (table : Members) (f : Flaw) → plan_in table ≡ Err (fault_of f) → Fails (fault_of f) (plan_in table)
fails_by table (flaw.Missing key) is = is
fails_by table (flaw.Bad key) is = is
fails_by table flaw.Unknown is = is
fails_by table (flaw.Most key) is = is
fails_by table flaw.Repeated is = is

pub fails_without : (table : Members) (spot : Spot) (f : Flaw) → reading_of table ≡ Err (At spot f) → Fails (fault_of f) (plan_in table)
fails_without table spot f is = fails_by table f (fault_of_reading table spot f is)

-- ---- the bytes of a document

-- they are read as the document
pub of_document : (bytes : List ℕ) (table : Members) → is_utf8 bytes ≡ true → parse_document bytes ≡ Some table → workload_of bytes ≡ plan_in table
unfolding workload_of plan_of_text
of_document bytes table text parsed = rw (text, parsed) refl

-- a text that is none
pub of_no_document : (bytes : List ℕ) → is_utf8 bytes ≡ true → parse_document bytes ≡ None → workload_of bytes ≡ Err fault.NotToml
unfolding workload_of plan_of_text
of_no_document bytes text parsed = rw (text, parsed) refl

-- bytes that are no text
pub of_no_text : (bytes : List ℕ) → is_utf8 bytes ≡ false → workload_of bytes ≡ Err fault.NotUtf8
unfolding workload_of
of_no_text bytes no_text = rw no_text refl

-- what a document is read as
pub read_document : (bytes : List ℕ) (table : Members) (r : Result Workload ReadError) → workload_of bytes ≡ plan_in table
    → IfOk r (λ w. reading_of table ≡ Ok (plan_of w)) → IfOk r (λ w. workload_of bytes ≡ Ok (plan_of w))
read_document bytes table (Ok w) read is = read ∙ plan_of_reading table (plan_of w) is
read_document bytes table (Err e) read is = tt

-- ---- which fault is told

-- the first flaw of a document, which is told in its table
pub told_in_table : (table : Members) (spot : Spot) (w : Flaw) (r : ReadError) → reading_of table ≡ Err (At spot w) → IsToldIn spot w r → IsToldOfTable table r
told_in_table table spot w (told.Fault f) read h = (spot, w, read, h)
told_in_table table spot w told.NoMemory read h = tt

pub told_fault : (bytes : List ℕ) (e : WorkloadError) (r : ReadError) → workload_of bytes ≡ Err e → IsToldAs e r → TellsFault bytes r
told_fault bytes e (told.Fault f) read is = read ∙ ap (λ (x : WorkloadError). Err x) (sym is)
told_fault bytes e told.NoMemory read is = tt

told_table : (bytes : List ℕ) (table : Members) (r : ReadError) → workload_of bytes ≡ plan_in table → IsToldOfTable table r → TellsFault bytes r
told_table bytes table (told.Fault f) read (spot, w, is, (error, at, cause)) =
    read ∙ fault_of_reading table spot w is ∙ ap (λ (x : WorkloadError). Err x) (sym error)
told_table bytes table told.NoMemory read h = tt

-- for all faults of an answer
pub told_tables : {T : Type 0} (bytes : List ℕ) (table : Members) (r : Result T ReadError) → workload_of bytes ≡ plan_in table → IfErr r (IsToldOfTable table) → IfErr r (TellsFault bytes)
told_tables bytes table (Ok w) read told = tt
told_tables bytes table (Err e) read told = told_table bytes table e read told

-- ---- where it is told

-- in bytes that aren't UTF-8
placed_bytes : (bytes : List ℕ) (count : ℕ) (at : Place) (cause : Why) → ¬ IsUtf8 bytes → IsValidUpTo bytes count → at ≡ place_behind (take count bytes)
    → cause ≡ why.NotUtf8 → IsPlaced bytes at cause
placed_bytes bytes count at cause bad valid behind is = record {
  within = subst (λ (p : Place). IsPlaceIn bytes p) (sym behind) (count, omega (arith, valid.short), refl);
  not_utf8 = λ no. (count, valid, behind);
  syntax = subst (λ (w : Why). IsBehindSyntax bytes w at) (sym is) tt;
  document = λ table good parsed. absurd (bad good);
}

pub told_of_bytes : (bytes : List ℕ) (count : ℕ) (r : ReadError) → ¬ IsUtf8 bytes → IsValidUpTo bytes count → IsToldOfBytes (take count bytes) r → TellsPlace bytes r
told_of_bytes bytes count (told.Fault f) bad valid h = placed_bytes bytes count f.place f.why bad valid h.0 h.1
told_of_bytes bytes count told.NoMemory bad valid h = tt

-- what is told of a flaw is no syntax fault
no_syntax : (bytes : List ℕ) (at : Place) (spot : Spot) (f : Flaw) (cause : Why) → IsToldOf spot f cause → IsBehindSyntax bytes cause at
no_syntax bytes at spot (flaw.Missing key) cause is = subst (λ (w : Why). IsBehindSyntax bytes w at) (sym is) tt
no_syntax bytes at spot (flaw.Bad key) cause is = subst (λ (w : Why). IsBehindSyntax bytes w at) (sym is) tt
no_syntax bytes at spot (flaw.Most key) cause is = subst (λ (w : Why). IsBehindSyntax bytes w at) (sym is) tt
no_syntax bytes at spot flaw.Repeated cause is = subst (λ (w : Why). IsBehindSyntax bytes w at) (sym is) tt
no_syntax bytes at spot flaw.Unknown why.NotUtf8 h = tt
no_syntax bytes at spot flaw.Unknown (why.Syntax e) h = absurd h
no_syntax bytes at spot flaw.Unknown (why.Value key) h = tt
no_syntax bytes at spot flaw.Unknown (why.Unknown key known) h = tt
no_syntax bytes at spot flaw.Unknown (why.Most key) h = tt
no_syntax bytes at spot flaw.Unknown why.Repeated h = tt

-- of the one document of a text
one_document : (text : List ℕ) (table other : Members) → parse_document text ≡ Some table → parse_document text ≡ Some other → table ≡ other
one_document text table other parsed again = let e : Some table ≡ Some other = sym parsed ∙ again in cc

-- in a TOML document
placed_table : (bytes : List ℕ) (table : Members) (at : Place) (cause : Why) (spot : Spot) (f : Flaw) → IsUtf8 bytes → parse_document bytes ≡ Some table
    → reading_of table ≡ Err (At spot f) → at ≡ place.Table spot → IsToldOf spot f cause → IsPlaced bytes at cause
placed_table bytes table at cause spot f good parsed read is caused = record {
  within = subst (λ (p : Place). IsPlaceIn bytes p) (sym is) tt;
  not_utf8 = λ bad. absurd (bad good);
  syntax = no_syntax bytes at spot f cause caused;
  document = λ other text again.
      let same : table ≡ other = one_document bytes table other parsed again in
      subst (λ (p : Place). IsFlawOf other p cause) (sym is) (f, subst (λ (t : Members). reading_of t ≡ Err (At spot f)) same read, caused);
}

told_of_table : (bytes : List ℕ) (table : Members) (r : ReadError) → IsUtf8 bytes → parse_document bytes ≡ Some table → IsToldOfTable table r → TellsPlace bytes r
told_of_table bytes table (told.Fault f) good parsed (spot, w, is, (error, at, cause)) = placed_table bytes table f.place f.why spot w good parsed is at cause
told_of_table bytes table told.NoMemory good parsed h = tt

-- for all faults of an answer
pub told_of_tables : {T : Type 0} (bytes : List ℕ) (table : Members) (r : Result T ReadError) → IsUtf8 bytes → parse_document bytes ≡ Some table
    → IfErr r (IsToldOfTable table) → IfErr r (TellsPlace bytes)
told_of_tables bytes table (Ok w) good parsed told = tt
told_of_tables bytes table (Err e) good parsed told = told_of_table bytes table e good parsed told
