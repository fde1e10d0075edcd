-- What an input that was taken says of the program's answer.
use Rattle.std.proofs.Common.{◌≡◌, ◌≢◌, ◌↔◌, ◌⊎◌, ℕ, arith, Bool, true, false, inl, inr, refl, ap, subst, List, [], ◌∷◌, length, Option, None, Some, Result, Ok, Err, IfSome, IfErr, IfOk, IsErrOf, OnOk}
use Rattle.std.specs.Prelude.{suc, ◌==◌, ◌&&◌, ◌||◌, not, nat_eq, String, string_bytes, codes}
use Rattle.std.proofs.lemmas.Bool.Decides.{eqb_tells}
use Rattle.std.specs.Cmp.Lexicographic.{pointwise, bytes_decides}
use Rattle.std.specs.Global.{Global}
use Rattle.std.specs.List.{AllPass}
use Rattle.std.specs.Io.KnownBytes.{Appends}
use Rattle.hex.specs.Hex.{is_hex_digit}
use Rattle.nvme_output.specs.Written.{AppendsPrefix}
use Rattle.nvme_arbiter.specs.History.{History}
use Rattle.nvme_front.specs.declared.settled.Settled.{Settled}
use Rattle.nvme_lane.specs.declared.mode.Mode.{Mode}
use Rattle.nvme_report.specs.Report.{report_text}
use Rattle.nvme_workload.specs.declared.error.WorkloadError.{WorkloadError}
use Rattle.nvme_workload.specs.Plan.{workload_of}
use Rattle.nvme_words.specs.Once.{IsAnswer, entry_text}
use Rattle.nvme_runs.specs.Runs.{IsRun}
use Rattle.nvme_words.specs.declared.entries.OnceError.{OnceError}
use Rattle.nvme_words.specs.declared.entries.OnceError.TheVariants as entry
use Rattle.nvme_runs.specs.declared.runs.RunError.{RunError}
use Rattle.nvme_runs.specs.declared.runs.RunError.TheVariants as run
use Rattle.nvme_trace.specs.Checks.{IsFaultBy, IsLawfulBy, IsRefusedBy}
use Rattle.nvme_trace.specs.declared.fault.TraceError.{TraceError}
use Rattle.nvme_trace.specs.declared.fault.TraceError.TheVariants as trace
use Rattle.nvme_trace.specs.declared.basis.Basis.{Basis}
use Rattle.nvme_trace.specs.declared.basis.Basis.TheVariants.{Profile, Specification}
use Rattle.nvme_trace.specs.Surveys.{AreNone, IsSurvey}
use Rattle.nvme_trace.specs.declared.survey.Survey.{Survey}
use Rattle.nvme_trace.proofs.SurveyLemmas.{lawful_survey}
use Rattle.nvme_trace.specs.declared.judges.Reason.{Reason}
use Rattle.nvme_trace.specs.declared.records.Head.{Head}
use Rattle.nvme_trace.specs.Shown.{IsReadFaultBy, IsShownBy}
use Rattle.nvme_lint.specs.Lints.{IsLawful}
use Rattle.nvme_lint.specs.Warnings.{AreWarningsOf}
use Rattle.nvme_lint.specs.declared.warning.Warning.{Warning}
use Rattle.nvme_sim.specs.declared.faults.Fault.{Fault}
use Rattle.nvme_sim.specs.Answers.{Appended, AppendedPart, FailsToCheck, FailsToSurvey, HasAnswer, HasReport, HasWorkload}
use Rattle.nvme_sim.specs.Inputs.{AsksForMore, HasNoWarning, HasWarnings, IsBadInput, IsBadTrace, IsDiffering, IsFaultyShown, IsFaultyTrace, IsJudgedBy, IsRefusedCheck, IsRefusedTrace, IsToldBy, IsTrace, lawful_line}
use Rattle.nvme_short.specs.declared.faults.ShortFaults.{ShortFaults}
use Rattle.nvme_short.specs.declared.expansion.ExpandError.TheVariants as short
use Rattle.nvme_short.specs.Expansion.{StandsFor, TellsShortFaults}
use Rattle.nvme_sim.specs.Files.{IsBadFile, OfFile}
use Rattle.nvme_sim.specs.Statuses.{IsBadEntry, IsBadWorkload, IsNoWorkload, run_status, status_of, trace_status}
use Rattle.nvme_words.specs.Requests.{IsAskedBy}
use Rattle.nvme_words.specs.declared.requests.Request.{Request}
use Rattle.nvme_words.specs.declared.requests.OptionsFault.TheVariants as unfit
use Rattle.nvme_words.specs.declared.requests.Request.TheVariants as request
use Rattle.nvme_words.specs.Words.{asks, asks_alone, is_option, reads_file, reads_workload, shows_trace}

-- a text that isn't an entry has one of the faults of an entry
pub bad_entry : {T : Type 0} (input : Option (List ℕ)) (bytes : List ℕ) (e : OnceError) → IfSome input (λ rest. bytes ≡ rest)
    → (IsErrOf {T = T} (Err e) entry.Length ↔ (length (entry_text bytes) ≢ 128))
    → (IsErrOf {T = T} (Err e) entry.Digit ↔ ((length (entry_text bytes) ≡ 128) × ¬ AllPass is_hex_digit (entry_text bytes))) → IfSome input IsBadEntry
bad_entry None bytes e whole long digit = tt
bad_entry (Some rest) bytes entry.Length whole long digit = subst (λ (bs : List ℕ). IsBadEntry bs) whole (inr (inl (long.0 refl)))
bad_entry (Some rest) bytes entry.Digit whole long digit = subst (λ (bs : List ℕ). IsBadEntry bs) whole (inr (inr (digit.0 refl).1))

-- a run whose fault has status 1 had no workload
pub bad_workload : {T : Type 0} (input : Option (List ℕ)) (bytes : List ℕ) (e : RunError) → IfSome input (λ rest. bytes ≡ rest)
    → ((w : WorkloadError) → IsErrOf {T = T} (Err e) (run.Workload w) → workload_of bytes ≡ Err w) → run_status e ≡ 1 → IfSome input IsBadWorkload
bad_workload None bytes e whole told one = tt
bad_workload (Some rest) bytes (run.Workload w) whole told one = subst (λ (bs : List ℕ). IsBadWorkload bs) whole (inr (w, told w refl))
bad_workload (Some rest) bytes run.Workers whole told one = absurd (cc one)
bad_workload (Some rest) bytes (run.TooLong r) whole told one = absurd (cc one)
bad_workload (Some rest) bytes run.NoMemory whole told one = absurd (cc one)
bad_workload (Some rest) bytes (run.Front e) whole told one = absurd (cc one)
bad_workload (Some rest) bytes run.GaveUp whole told one = absurd (cc one)
bad_workload (Some rest) bytes run.Write whole told one = absurd (cc one)

-- a file whose fault is told is no workload
pub bad_file : (input : Option (List ℕ)) (bytes : List ℕ) → IfSome input (λ rest. bytes ≡ rest) → IsNoWorkload bytes → IfSome input IsBadWorkload
bad_file None bytes whole bad = tt
bad_file (Some rest) bytes whole bad = subst (λ (bs : List ℕ). IsBadWorkload bs) whole (inr bad)

-- a lawful file of which something is told has warnings
pub has_warnings : (input : Option (List ℕ)) (bytes : List ℕ) (ws : List Warning) → IfSome input (λ rest. bytes ≡ rest) → AreWarningsOf bytes ws → (length ws == 0) ≡ false → IfSome input HasWarnings
has_warnings None bytes ws whole are some = tt
has_warnings (Some rest) bytes [] whole are some = absurd (cc some)
has_warnings (Some rest) bytes (w ∷ ws) whole are some = (w, ws, subst (λ (bs : List ℕ). AreWarningsOf bs (w ∷ ws)) whole are)

-- nothing is true and false
not_both : (b : Bool) → b ≡ true → b ≡ false → ⊥
not_both true p q = absurd (cc q)
not_both false p q = absurd (cc p)

-- a list with an item has not length 0
not_empty : (w : Warning) (ws : List Warning) → (length (w ∷ ws) == 0) ≡ true → ⊥
not_empty w ws h = elim (eqb_tells (length (w ∷ ws)) 0) [
  | inl q ↦ let e : suc (length ws) ≡ 0 = q.1 in omega (arith, e)
  | inr q ↦ not_both (length (w ∷ ws) == 0) h q.0
]

-- and one of which nothing is told has none
pub has_no_warning : (input : Option (List ℕ)) (bytes : List ℕ) (ws : List Warning) → IfSome input (λ rest. bytes ≡ rest) → AreWarningsOf bytes ws → (length ws == 0) ≡ true → IfSome input HasNoWarning
has_no_warning None bytes ws whole are none = tt
has_no_warning (Some rest) bytes [] whole are none = subst (λ (bs : List ℕ). AreWarningsOf bs []) whole are
has_no_warning (Some rest) bytes (w ∷ ws) whole are none = absurd (not_empty w ws none)

-- what holds of the bytes that were taken holds of the input
pub of_taken : (input : Option (List ℕ)) (bytes : List ℕ) (P : List ℕ → Type 0) → IfSome input (λ rest. bytes ≡ rest) → P bytes → IfSome input P
of_taken None bytes P whole h = tt
of_taken (Some rest) bytes P whole h = subst P whole h

pub ok_of_taken : {T E : Type 0} (input : Option (List ℕ)) (bytes : List ℕ) (P : List ℕ → T → Type 0) (result : Result T E) → IfSome input (λ rest. bytes ≡ rest)
    → IfOk result (P bytes) → IfOk result (λ x. IfSome input (λ rest. P rest x))
ok_of_taken input bytes P (Ok x) whole h = of_taken input bytes (λ rest. P rest x) whole h
ok_of_taken input bytes P (Err e) whole h = tt

pub bad_of_taken : {T : Type 0} (input : Option (List ℕ)) (bytes : List ℕ) (P : List ℕ → Type 0) (result : Result T Fault) → IfSome input (λ rest. bytes ≡ rest)
    → IfErr result (λ e. status_of e ≡ 1 → P bytes) → IfErr result (λ e. status_of e ≡ 1 → IfSome input P)
bad_of_taken input bytes P (Ok x) whole h = tt
bad_of_taken input bytes P (Err e) whole h = λ one. of_taken input bytes P whole (h one)

-- a run that comes to nothing leaves the output as it was, or a prefix of a report
pub run_failed : {W : Type 0} (contents : W → Option (List ℕ)) (old new : W) (input : Option (List ℕ)) (bytes : List ℕ) (mode : Mode) (e : RunError)
    → IfSome input (λ rest. bytes ≡ rest) → (e ≢ run.Write → new ≡ old)
    → (e ≡ run.Write → (s : Settled) × IsRun bytes mode s × AppendsPrefix (contents old) (contents new) (report_text mode s))
    → (new ≡ old) ⊎ IfSome input (HasReport (AppendedPart contents old new) mode)
run_failed contents old new input bytes mode run.Write whole untouched failed = inr (of_taken input bytes (HasReport (AppendedPart contents old new) mode) whole (failed refl))
run_failed contents old new input bytes mode (run.Workload w) whole untouched failed = inl (untouched (λ q. cc q))
run_failed contents old new input bytes mode run.Workers whole untouched failed = inl (untouched (λ q. cc q))
run_failed contents old new input bytes mode (run.TooLong r) whole untouched failed = inl (untouched (λ q. cc q))
run_failed contents old new input bytes mode run.NoMemory whole untouched failed = inl (untouched (λ q. cc q))
run_failed contents old new input bytes mode (run.Front f) whole untouched failed = inl (untouched (λ q. cc q))
run_failed contents old new input bytes mode run.GaveUp whole untouched failed = inl (untouched (λ q. cc q))

-- a text that is shown is a head and events
pub is_trace : (input : Option (List ℕ)) (P : Head → History → Type 0) → IfSome input (λ text. IsShownBy Specification text P) → IfSome input IsTrace
is_trace None P h = tt
is_trace (Some text) P h = record { head = h.head; past = h.past; tells = h.tells; holds = tt }

-- what follows from an answer
pub on_done : {T : Type 0} (result : Result T Fault) (x : T) (P : Type 0) → OnOk result P → result ≡ Ok x → P
on_done {T} result x P h is = subst (λ (r : Result T Fault). OnOk r P) is h

-- the answer to one entry was written
pub answer_came : {W T : Type 0} (contents : W → Option (List ℕ)) (old new : W) (input : Option (List ℕ)) (blocks : ℕ) (line : List ℕ) (result : Result T Fault) (x : T)
    → IfSome input (λ bytes. IsAnswer (entry_text bytes) blocks line) → OnOk result ((result ≡ Ok x) × Appends (contents old) (contents new) line)
    → OnOk result (IfSome input (HasAnswer (Appended contents old new) blocks))
answer_came contents old new None blocks line (Ok y) x h w = tt
answer_came contents old new (Some bytes) blocks line (Ok y) x h w = (line, h, w.1)
answer_came contents old new input blocks line (Err e) x h w = tt

-- or a write of it failed
pub answer_came_in_part : {W T : Type 0} (contents : W → Option (List ℕ)) (old new : W) (input : Option (List ℕ)) (blocks : ℕ) (line : List ℕ) (result : Result T Fault)
    → IfSome input (λ bytes. IsAnswer (entry_text bytes) blocks line) → IfErr result (λ e. AppendsPrefix (contents old) (contents new) line)
    → IfErr result (λ e. (new ≡ old) ⊎ IfSome input (HasAnswer (AppendedPart contents old new) blocks))
answer_came_in_part contents old new input blocks line (Ok y) h w = tt
answer_came_in_part contents old new None blocks line (Err e) h w = inr tt
answer_came_in_part contents old new (Some bytes) blocks line (Err e) h w = inr (line, h, w)

-- a workload without warnings leaves the output as it was
pub is_quiet : {W : Type 0} (old new : W) (input : Option (List ℕ)) → IfSome input (OfFile HasNoWarning) → new ≡ old → IfSome input (λ bytes. OfFile HasNoWarning bytes × (new ≡ old))
is_quiet old new None none same = tt
is_quiet old new (Some bytes) none same = (none, same)

-- where nothing is said
pub nothing_said : (input : Option (List ℕ)) → IfSome input (λ bytes. Unit {0})
nothing_said None = tt
nothing_said (Some bytes) = tt

pub no_fault_said : {T : Type 0} (result : Result T Fault) (A : Type 0) (input : Option (List ℕ)) → IfErr result (λ e. A ⊎ IfSome input (λ bytes. Unit {0}))
no_fault_said (Ok x) A input = tt
no_fault_said (Err e) A input = inr (nothing_said input)

-- what is said whatever the input is
pub said_of : (input : Option (List ℕ)) (P : Type 0) → P → IfSome input (λ bytes. P)
said_of None P h = tt
said_of (Some bytes) P h = h

pub no_kind : {T : Type 0} (result : Result T Fault) (input : Option (List ℕ)) (P : List ℕ → Type 0) → IfErr result (λ e. status_of e ≡ 1 → ⊥)
    → IfErr result (λ e. status_of e ≡ 1 → IfSome input P)
no_kind (Ok x) input P h = tt
no_kind (Err e) input P h = λ one. absurd (h one)

-- another second case of a fault
pub or_else : {T : Type 0} (result : Result T Fault) (A B C : Type 0) → (B → C) → IfErr result (λ e. A ⊎ B) → IfErr result (λ e. A ⊎ C)
or_else (Ok x) A B C more h = tt
or_else (Err e) A B C more (inl a) = inl a
or_else (Err e) A B C more (inr b) = inr (more b)

-- a line of a trace that has a fault
pub faulty_trace : (basis : Basis) (input : Option (List ℕ)) (e : TraceError) → IfSome input (λ text. IsFaultBy basis text e) → trace_status e ≡ 1 → IfSome input (IsFaultyTrace basis)
faulty_trace basis None e h one = tt
faulty_trace basis (Some text) (trace.Line line f note) h one = (line, f, note, h)
faulty_trace basis (Some text) trace.Read h one = absurd (cc one)
faulty_trace basis (Some text) trace.NoMemory h one = absurd (cc one)

-- a line of a trace that is shown has a fault
pub faulty_shown : (basis : Basis) (input : Option (List ℕ)) (e : TraceError) → IfSome input (λ text. IsReadFaultBy basis text e) → trace_status e ≡ 1 → IfSome input (IsFaultyShown basis)
faulty_shown basis None e h one = tt
faulty_shown basis (Some text) (trace.Line line f note) h one = (line, f, note, h)
faulty_shown basis (Some text) trace.Read h one = absurd (cc one)
faulty_shown basis (Some text) trace.NoMemory h one = absurd (cc one)

-- each pick of a trace is allowed, and that was written
pub told_lawful : (basis : Basis) (input : Option (List ℕ)) (picks : ℕ) (old new : Option (List ℕ)) → IfSome input (λ text. IsLawfulBy basis text picks) → Appends old new (lawful_line picks)
    → IfSome input (IsToldBy basis old new)
told_lawful basis None picks old new h w = tt
told_lawful basis (Some text) picks old new h w = (picks, h, w)

-- or a write of that failed
pub told_in_part : {W T : Type 0} (basis : Basis) (contents : W → Option (List ℕ)) (old new : W) (input : Option (List ℕ)) (picks : ℕ) (result : Result T Fault)
    → IfSome input (λ text. IsLawfulBy basis text picks) → IfErr result (λ e. AppendsPrefix (contents old) (contents new) (lawful_line picks))
    → IfErr result (λ e. (new ≡ old) ⊎ IfSome input (FailsToCheck contents old new basis))
told_in_part basis contents old new input picks (Ok x) h w = tt
told_in_part basis contents old new None picks (Err e) h w = inr tt
told_in_part basis contents old new (Some text) picks (Err e) h w = inr (inl (picks, h, w))

-- or of a pick that isn't allowed
pub told_refused : {W T : Type 0} (basis : Basis) (contents : W → Option (List ℕ)) (old new : W) (input : Option (List ℕ)) (result : Result T Fault) → IfSome input (IsRefusedTrace basis)
    → IfErr result (λ e. (new ≡ old) ⊎ IfSome input (FailsToCheck contents old new basis))
told_refused basis contents old new input (Ok x) h = tt
told_refused basis contents old new None (Err e) h = inr tt
told_refused basis contents old new (Some text) (Err e) h = inr (inr h)

-- the same where all picks are judged
pub told_in_part_of_all : {W T : Type 0} (contents : W → Option (List ℕ)) (old new : W) (input : Option (List ℕ)) (picks : ℕ) (result : Result T Fault)
    → IfSome input (λ text. IsLawfulBy Profile text picks) → IfErr result (λ e. AppendsPrefix (contents old) (contents new) (lawful_line picks))
    → IfErr result (λ e. (new ≡ old) ⊎ IfSome input (FailsToSurvey contents old new))
told_in_part_of_all contents old new input picks (Ok x) h w = tt
told_in_part_of_all contents old new None picks (Err e) h w = inr tt
told_in_part_of_all contents old new (Some text) picks (Err e) h w = inr (inl (picks, h, w))

pub told_differing : {W T : Type 0} (contents : W → Option (List ℕ)) (old new : W) (input : Option (List ℕ)) (result : Result T Fault) → IfSome input IsDiffering
    → IfErr result (λ e. (new ≡ old) ⊎ IfSome input (FailsToSurvey contents old new))
told_differing contents old new input (Ok x) h = tt
told_differing contents old new None (Err e) h = inr tt
told_differing contents old new (Some text) (Err e) h = inr (inr h)

pub differing : (input : Option (List ℕ)) (survey : Survey) → IfSome input (λ text. IsSurvey text survey) → (AreNone survey.counts → ⊥) → IfSome input IsDiffering
differing None survey h n = tt
differing (Some text) survey h n = (survey, h, n)

pub lawful_by_survey : (input : Option (List ℕ)) (survey : Survey) → IfSome input (λ text. IsSurvey text survey) → AreNone survey.counts → IfSome input (λ text. IsLawfulBy Profile text survey.picks)
lawful_by_survey None survey h n = tt
lawful_by_survey (Some text) survey h n = lawful_survey text survey h n

-- a trace has a pick that isn't allowed
pub refused_trace : (basis : Basis) (input : Option (List ℕ)) (line : ℕ) (quoted : List ℕ) (reason : Reason) → IfSome input (λ text. IsRefusedBy basis text line quoted reason) → IfSome input (IsRefusedTrace basis)
refused_trace basis None line quoted reason h = tt
refused_trace basis (Some text) line quoted reason h = (line, quoted, reason, h)

-- a fault of one kind of input is one of another kind
pub of_kind : {T : Type 0} (result : Result T Fault) (input : Option (List ℕ)) (P Q : List ℕ → Type 0) → ((bs : List ℕ) → P bs → Q bs)
    → IfErr result (λ e. status_of e ≡ 1 → IfSome input P) → IfErr result (λ e. status_of e ≡ 1 → IfSome input Q)
of_kind (Ok t) input P Q more h = tt
of_kind (Err e) None P Q more h = λ one. tt
of_kind (Err e) (Some bs) P Q more h = λ one. more bs (h one)

-- a bad input by the word that asks for it
pub bad_once : (words : List (String Global)) (bytes : List ℕ) → asks (codes "once") words ≡ true → IsBadEntry bytes → IsBadInput words bytes
bad_once words bytes asked bad = inl (asked, bad)

pub bad_run : (words : List (String Global)) (bytes : List ℕ) → reads_workload words ≡ true → IsBadWorkload bytes → IsBadInput words bytes
bad_run words bytes asked bad = inr (inl (asked, bad))

pub bad_check : (basis : Basis) (words : List (String Global)) (bytes : List ℕ) → IsJudgedBy words basis → IsBadTrace basis bytes → IsBadInput words bytes
bad_check basis words bytes asked bad = inr (inr (inl (basis, asked, bad)))

pub bad_shown : (words : List (String Global)) (bytes : List ℕ) → shows_trace words ≡ true → IsFaultyShown Specification bytes → IsBadInput words bytes
bad_shown words bytes asked bad = inr (inr (inr (inl (asked, bad))))

pub bad_file_read : (words : List (String Global)) (bytes : List ℕ) → reads_file words ≡ true → IsBadFile bytes → IsBadInput words bytes
bad_file_read words bytes asked bad = inr (inr (inr (inr (inl (asked, bad)))))

pub bad_all : (words : List (String Global)) (bytes : List ℕ) → AsksForMore words → IsFaultyShown Profile bytes ⊎ IsDiffering bytes → IsBadInput words bytes
bad_all words bytes asked bad = inr (inr (inr (inr (inr (asked, bad)))))

pub faulty_is_bad : (basis : Basis) (bytes : List ℕ) → IsFaultyTrace basis bytes → IsBadTrace basis bytes
faulty_is_bad basis bytes h = inl h

-- a check that found a pick was of a bad input
pub bad_pick : (words : List (String Global)) (input : Option (List ℕ)) → IsRefusedCheck words input → IfSome input (IsBadInput words)
bad_pick words None h = tt
bad_pick words (Some bytes) (inl h) = bad_check h.0 words bytes h.1 (inr h.2)
bad_pick words (Some bytes) (inr h) = bad_all words bytes h.0 (inr h.1)

-- a choice with a true part is true
last_of : (a b : Bool) → b ≡ true → (a || b) ≡ true
last_of true b h = refl
last_of false b h = h

first_of_two : (a b : Bool) → a ≡ true → (a || b) ≡ true
first_of_two true b h = refl
first_of_two false b h = absurd (cc h)

by_one : (a b c d : Bool) → (a ≡ true) ⊎ (b ≡ true) ⊎ (c ≡ true) ⊎ (d ≡ true) → (a || b || c || d) ≡ true
by_one a b c d (inl h) = first_of_two (a || b || c) d (first_of_two (a || b) c (first_of_two a b h))
by_one a b c d (inr (inl h)) = first_of_two (a || b || c) d (first_of_two (a || b) c (last_of a b h))
by_one a b c d (inr (inr (inl h))) = first_of_two (a || b || c) d (last_of (a || b) c h)
by_one a b c d (inr (inr (inr h))) = last_of (a || b || c) d h

-- the words that read a file of either form
pub one_reads_file : (words : List (String Global))
    → (asks (codes "run") words ≡ true) ⊎ (asks (codes "lint") words ≡ true) ⊎ (asks (codes "trace") words ≡ true) ⊎ (asks (codes "expand") words ≡ true)
    → reads_file words ≡ true
one_reads_file words asked = by_one (asks (codes "run") words) (asks (codes "lint") words) (asks (codes "trace") words) (asks (codes "expand") words) asked

-- ---- what holds of the text of a file holds of the file

pub of_file : (input : Option (List ℕ)) (text : List ℕ) (P : List ℕ → Type 0) → IfSome input (λ bytes. StandsFor bytes text) → P text → IfSome input (OfFile P)
of_file None text P stands h = tt
of_file (Some bytes) text P stands h = (text, stands, h)

pub bad_of_file : (input : Option (List ℕ)) (text : List ℕ) → IfSome input (λ bytes. StandsFor bytes text) → IsBadWorkload text → IfSome input IsBadFile
bad_of_file None text stands h = tt
bad_of_file (Some bytes) text stands h = inr (inr (text, stands, h))

pub no_workload_of_file : (input : Option (List ℕ)) (text : List ℕ) → IfSome input (λ bytes. StandsFor bytes text) → IsNoWorkload text → IfSome input IsBadFile
no_workload_of_file input text stands bad = bad_of_file input text stands (inr bad)

-- the text that a file stands for was written, or a part of it
pub written_of_file : {W : Type 0} (contents : W → Option (List ℕ)) (old new : W) (input : Option (List ℕ)) (text : List ℕ) → IfSome input (λ bytes. StandsFor bytes text)
    → IsLawful text → Appends (contents old) (contents new) text → IfSome input (OfFile (HasWorkload (Appended contents old new)))
written_of_file contents old new input text stands lawful h = of_file input text (HasWorkload (Appended contents old new)) stands (lawful, h)

pub written_in_part : {W : Type 0} (contents : W → Option (List ℕ)) (old new : W) (input : Option (List ℕ)) (text : List ℕ) → IfSome input (λ bytes. StandsFor bytes text)
    → IsLawful text → AppendsPrefix (contents old) (contents new) text → IfSome input (OfFile (HasWorkload (AppendedPart contents old new)))
written_in_part contents old new input text stands lawful h = of_file input text (HasWorkload (AppendedPart contents old new)) stands (lawful, h)

pub ok_of_file : {T : Type 0} (result : Result T Fault) (input : Option (List ℕ)) (text : List ℕ) (P : List ℕ → Type 0) → IfSome input (λ bytes. StandsFor bytes text)
    → OnOk result (P text) → OnOk result (IfSome input (OfFile P))
ok_of_file (Ok x) input text P stands h = of_file input text P stands h
ok_of_file (Err e) input text P stands h = tt

pub value_of_file : {T : Type 0} (result : Result T Fault) (input : Option (List ℕ)) (text : List ℕ) (P : List ℕ → T → Type 0) → IfSome input (λ bytes. StandsFor bytes text)
    → IfOk result (P text) → IfOk result (λ x. IfSome input (OfFile (λ t. P t x)))
value_of_file (Ok x) input text P stands h = of_file input text (λ t. P t x) stands h
value_of_file (Err e) input text P stands h = tt

pub err_of_file : {T : Type 0} (result : Result T Fault) (input : Option (List ℕ)) (text : List ℕ) → IfSome input (λ bytes. StandsFor bytes text)
    → IfErr result (λ e. status_of e ≡ 1 → IsBadWorkload text) → IfErr result (λ e. status_of e ≡ 1 → IfSome input IsBadFile)
err_of_file (Ok x) input text stands h = tt
err_of_file (Err e) input text stands h = λ one. bad_of_file input text stands (h one)

pub failed_of_file : {T : Type 0} (result : Result T Fault) (A : Type 0) (input : Option (List ℕ)) (text : List ℕ) (P : List ℕ → Type 0) → IfSome input (λ bytes. StandsFor bytes text)
    → IfErr result (λ e. A ⊎ P text) → IfErr result (λ e. A ⊎ IfSome input (OfFile P))
failed_of_file (Ok x) A input text P stands h = tt
failed_of_file (Err e) A input text P stands (inl a) = inl a
failed_of_file (Err e) A input text P stands (inr h) = inr (of_file input text P stands h)

pub short_is_bad : (input : Option (List ℕ)) (bytes : List ℕ) (faults : ShortFaults) → IfSome input (λ rest. bytes ≡ rest) → TellsShortFaults bytes (short.Faults faults) → IfSome input IsBadFile
short_is_bad None bytes faults whole h = tt
short_is_bad (Some rest) bytes faults whole h = subst (λ (bs : List ℕ). IsBadFile bs) whole (inr (inl (faults, h)))

-- ---- words that ask for a check alone

and_left : (a b : Bool) → (a && b) ≡ true → a ≡ true
and_left true b h = refl
and_left false b h = absurd (cc h)

alone_asks : (name : List ℕ) (words : List (String Global)) → asks_alone name words ≡ true → asks name words ≡ true
alone_asks name [] h = absurd (cc h)
alone_asks name (p ∷ []) h = absurd (cc h)
alone_asks name (p ∷ w ∷ []) h = h
alone_asks name (p ∷ w ∷ f ∷ []) h = and_left (pointwise nat_eq (string_bytes w) name) (not (is_option (string_bytes f))) h
alone_asks name (p ∷ w ∷ f ∷ m ∷ rest) h = absurd (cc h)

-- whether they ask for another word
check_is : (words : List (String Global)) → asks (codes "check") words ≡ true → (name : List ℕ) → asks name words ≡ pointwise nat_eq (codes "check") name
check_is [] h name = absurd (cc h)
check_is (p ∷ []) h name = absurd (cc h)
check_is (p ∷ w ∷ rest) h name = ap (λ (v : List ℕ). pointwise nat_eq v name) ((bytes_decides (string_bytes w) (codes "check")).0 h)

check_reads_none : (words : List (String Global)) → asks (codes "check") words ≡ true → reads_workload words ≡ false
check_reads_none words h =
    let loaded : asks (codes "loaded") words ≡ false = check_is words h (codes "loaded") in
    let live : asks (codes "live") words ≡ false = check_is words h (codes "live") in
    rw (loaded, live) refl

check_shows_none : (words : List (String Global)) → asks (codes "check") words ≡ true → shows_trace words ≡ false
check_shows_none words h =
    let chart : asks (codes "chart") words ≡ false = check_is words h (codes "chart") in
    let stats : asks (codes "stats") words ≡ false = check_is words h (codes "stats") in
    rw (chart, stats) refl

abbrev pub IsCheck : Request → Type 0
IsCheck request.Check = Unit {0}
IsCheck r = ⊥

-- they ask for a check, and for nothing else
pub only_check : (words : List (String Global)) (r : Request) → IsAskedBy words r → asks_alone (codes "check") words ≡ true → IsCheck r
only_check words (request.Once blocks) asked a = not_both (asks (codes "once") words) asked (check_is words (alone_asks (codes "check") words a) (codes "once"))
only_check words (request.Run mode workers) asked a = not_both (reads_workload words) asked (check_reads_none words (alone_asks (codes "check") words a))
only_check words (request.RunFile mode workers) asked a = not_both (asks (codes "run") words) asked (check_is words (alone_asks (codes "check") words a) (codes "run"))
only_check words request.Expand asked a = not_both (asks (codes "expand") words) asked (check_is words (alone_asks (codes "check") words a) (codes "expand"))
only_check words request.Lint asked a = not_both (asks (codes "lint") words) asked (check_is words (alone_asks (codes "check") words a) (codes "lint"))
only_check words request.Check asked a = tt
only_check words request.CheckSpec asked a = not_both (asks_alone (codes "check") words) a asked.1
only_check words request.CheckAll asked a = not_both (asks_alone (codes "check") words) a asked.1
only_check words (request.Trace mode workers) asked a = not_both (asks (codes "trace") words) asked (check_is words (alone_asks (codes "check") words a) (codes "trace"))
only_check words (request.Chart drawing) asked a = not_both (shows_trace words) asked (check_shows_none words (alone_asks (codes "check") words a))
only_check words (request.Stats numbers) asked a = not_both (shows_trace words) asked (check_shows_none words (alone_asks (codes "check") words a))
only_check words (request.Settings reading) asked a = not_both (asks (codes "settings") words) asked (check_is words (alone_asks (codes "check") words a) (codes "settings"))
only_check words (request.Unfit unfit.AllOfSpec) asked a = not_both (asks_alone (codes "check") words) a asked.1
only_check words (request.Unfit (unfit.Behind range)) asked a = not_both (shows_trace words) asked (check_shows_none words (alone_asks (codes "check") words a))
only_check words (request.Help text) asked a = not_both (asks_alone (codes "check") words) a asked
