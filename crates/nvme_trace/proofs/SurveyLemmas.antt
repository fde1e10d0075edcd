-- A surveyor goes through the lines of a text.
use Rattle.std.proofs.Common.{◌≡◌, ℕ, ◌+◌, ◌<◌, ◌≤◌, min, List, [], ◌∷◌, ◌++◌, length, map, take, reverse, Option, Some, None, Result, Ok, Err, inl, inr, refl, sym, ap, subst, ◌∙◌, append_assoc, append-nil, length-append, arith}
use Rattle.std.specs.Prelude.{IfSome, OnOk, if◌then◌else◌}
use Rattle.std.proofs.lemmas.List.{length-reverse, length-map, map-append, length-take, take_all, take-append-le}
use mathlib.Core.List.{reverse-cons, reverse-reverse}
use Rattle.nvme_arbiter.specs.Settings.{ArbitrationFields}
use Rattle.nvme_arbiter.specs.Observation.{IsObservation}
use Rattle.nvme_arbiter.specs.History.{ArbitrationEvent, History, Picked, Changed}
use Rattle.nvme_trace.specs.Taken.{IsTakenAfter}
use Rattle.nvme_arbiter.specs.Standing.{nothing_used}
use Rattle.nvme_arbiter.specs.declared.pick.Seen.{Seen}
use Rattle.nvme_arbiter.specs.declared.pick.Pick.{Pick}
use Rattle.nvme_arbiter.specs.declared.kept.Kept.{Kept}
use Rattle.nvme_judge.specs.Starts.{CanBegin, IsPrior}
use Rattle.nvme_judge.proofs.StartLemmas.{priors}
use Rattle.nvme_trace.specs.Readings.{seen_by}
use Rattle.nvme_lines.specs.Lines.{lines_of, numbered, told_lines, TakesTold, HasNoTold}
use Rattle.nvme_trace.specs.Format.{start_of_line, head_of_kept, event_by, room_of_line, rooms_of}
use Rattle.nvme_trace.specs.Checks.{TellsBy, BeginsAfter, start_of_told}
use Rattle.nvme_trace.specs.Faults.{IsEventFaultBy}
use Rattle.nvme_trace.specs.Judged.{picks_in}
use Rattle.nvme_trace.specs.Shown.{IsReadUpTo, IsReadFault}
use Rattle.nvme_trace.specs.Surveys.{Follows, IsDifferent, Told, AreDifferences, AreCounts, AreNone, LawfulSurveys, IsSurveyOf, IsSurvey, most_told, told_of, kind_of, is_kind, is_told_as}
use Rattle.nvme_trace.specs.inside.Steps.{SurveysAt, UsedFits}
use Rattle.nvme_trace.proofs.CheckLemmas.{same_text}
use Rattle.nvme_trace.proofs.FollowLemmas.{follows_stands, follows_changed}
use Rattle.nvme_trace.specs.declared.basis.Basis.TheVariants.{Profile}
use Rattle.nvme_trace.specs.declared.fault.TraceError.{TraceError}
use Rattle.nvme_trace.specs.declared.fault.TraceError.TheVariants as error
use Rattle.nvme_trace.specs.declared.records.Head.{Head}
use Rattle.nvme_trace.specs.declared.survey.Counts.{Counts}
use Rattle.nvme_trace.specs.declared.survey.Difference.{Difference}
use Rattle.nvme_trace.specs.declared.survey.Kind.{Kind}
use Rattle.nvme_trace.specs.declared.survey.Kind.TheVariants.{NothingReady, Queue, Number, Fresh}
use Rattle.nvme_trace.specs.declared.survey.Surveyor.{Surveyor}

-- ---- the first that are told
-- how many are kept
kept_length : (first : List Difference) (all : List Told) → map told_of first ≡ take most_told (reverse all) → length first ≡ min 10 (length all)
kept_length first all is =
    let a : length (map told_of first) ≡ length first = length-map first told_of in
    let b : length (map told_of first) ≡ length (take most_told (reverse all)) = ap length is in
    omega (arith, a, b, length-take 10 (reverse all), length-reverse all)

pub first_pushed : (first new : List Difference) (d : Difference) (all : List Told) → length first < 10 → new ≡ first ++ d ∷ [] → map told_of first ≡ take most_told (reverse all)
    → map told_of new ≡ take most_told (reverse (told_of d ∷ all))
first_pushed first new d all room pushed is =
    let some : length first ≡ min 10 (length all) = kept_length first all is in
    let few : length (reverse all) ≤ most_told = omega (arith, some, length-reverse all) in
    let more : length (reverse all ++ told_of d ∷ []) ≤ most_told = omega (arith, some, length-reverse all, length-append (reverse all) (told_of d ∷ [])) in
    ap (map told_of) pushed ∙ (map-append told_of first (d ∷ [])
    ∙ (ap (λ (l : List Told). l ++ told_of d ∷ []) (is ∙ take_all most_told (reverse all) few)
    ∙ (sym (take_all most_told (reverse all ++ told_of d ∷ []) more) ∙ ap (take most_told) (sym (reverse-cons (told_of d) all)))))

pub first_full : (first : List Difference) (d : Difference) (all : List Told) → 10 ≤ length first → map told_of first ≡ take most_told (reverse all)
    → map told_of first ≡ take most_told (reverse (told_of d ∷ all))
first_full first d all full is =
    let some : length first ≡ min 10 (length all) = kept_length first all is in
    let many : most_told ≤ length (reverse all) = omega (arith, some, length-reverse all) in
    is ∙ (sym (take-append-le most_told (reverse all) (told_of d ∷ []) many) ∙ ap (take most_told) (sym (reverse-cons (told_of d) all)))

-- ---- one event more
pub surveys_new : (start : Kept) (s : Surveyor) → s.kept ≡ start → UsedFits start.used → s.survey.picks ≡ 0 → s.survey.first.items ≡ []
    → s.survey.counts ≡ record { nothing_ready = 0; queue = 0; number = 0; fresh = 0 } → (prior : History) (lines : List (ℕ × List ℕ)) → IsPrior start prior → SurveysAt (head_of_kept start) prior [] lines s
surveys_new start s kept fits picks first counts prior lines is = record {
  follows = subst (Follows start.mechanism start.settings prior) (sym kept) (follows_stands start.mechanism start.settings prior start fits is.stands);
  told = record {
    all = [];
    differences = refl;
    first = ap (map told_of) first;
    counts = subst (λ (c : Counts). AreCounts c []) (sym counts) (record { nothing_ready = refl; queue = refl; number = refl; fresh = refl });
    picks = picks;
  };
}

pub surveys_set : (settings : ArbitrationFields) (s new : Surveyor) → new.kept ≡ record s.kept { settings = settings; used = nothing_used } → new.survey ≡ s.survey
    → (head : Head) (prior past : History) (line : ℕ × List ℕ) (lines : List (ℕ × List ℕ)) → SurveysAt head prior past lines s → SurveysAt head prior (Changed settings ∷ past) (line ∷ lines) new
surveys_set settings s new kept same head prior past line lines at =
    let told : IsSurveyOf head prior (Changed settings ∷ past) (line ∷ lines) s.survey = record {
      all = at.told.all;
      differences = (line, lines, refl, at.told.differences);
      first = at.told.first;
      counts = at.told.counts;
      picks = let before : s.survey.picks ≡ picks_in past = at.told.picks in omega arith;
    } in
    record {
      follows = subst (Follows head.mechanism head.settings (Changed settings ∷ past ++ prior)) (sym kept) (follows_changed head.mechanism head.settings (past ++ prior) s.kept settings at.follows);
      told = subst (IsSurveyOf head prior (Changed settings ∷ past) (line ∷ lines)) (sym same) told;
    }

pub surveys_tell : (head : Head) (prior past : History) (lines : List (ℕ × List ℕ)) (seen : List Seen) (picked : Pick) (d : Difference) (s new : Surveyor) → SurveysAt head prior past lines s
    → IsObservation seen → IsDifferent head (past ++ prior) (room_of_line d.quoted.items) seen picked d.finding → Follows head.mechanism head.settings (Picked seen picked ∷ past ++ prior) new.kept
    → ((all : List Told) → map told_of s.survey.first.items ≡ take most_told (reverse all) → map told_of new.survey.first.items ≡ take most_told (reverse (told_of d ∷ all)))
    → ((all : List Told) → AreCounts s.survey.counts all → AreCounts new.survey.counts (told_of d ∷ all))
    → new.survey.picks ≡ s.survey.picks + 1 → SurveysAt head prior (Picked seen picked ∷ past) ((d.line, d.quoted.items) ∷ lines) new
surveys_tell head prior past lines seen picked d s new at o different f first counts picks = record {
  follows = f;
  told = record {
    all = told_of d ∷ at.told.all;
    differences = ((d.line, d.quoted.items), lines, refl, o, inr (d.finding, at.told.all, refl, different, at.told.differences));
    first = first at.told.all at.told.first;
    counts = counts at.told.all at.told.counts;
    picks = let before : s.survey.picks ≡ picks_in past = at.told.picks in omega (arith, picks, before);
  };
}

-- one more of a kind
pub counts_more : (old new : Counts) (d : Difference) (k : Kind) → k ≡ kind_of d.finding.lawful d.finding.picked
    → new.nothing_ready ≡ old.nothing_ready + (if is_kind NothingReady k then 1 else 0) → new.queue ≡ old.queue + (if is_kind Queue k then 1 else 0)
    → new.number ≡ old.number + (if is_kind Number k then 1 else 0) → new.fresh ≡ old.fresh + (if is_kind Fresh k then 1 else 0)
    → (all : List Told) → AreCounts old all → AreCounts new (told_of d ∷ all)
counts_more old new d k is a b c e all counts = record {
  nothing_ready = a ∙ (ap (λ (x : Kind). old.nothing_ready + (if is_kind NothingReady x then 1 else 0)) is ∙ ap (λ (n : ℕ). n + is_told_as NothingReady (told_of d)) counts.nothing_ready);
  queue = b ∙ (ap (λ (x : Kind). old.queue + (if is_kind Queue x then 1 else 0)) is ∙ ap (λ (n : ℕ). n + is_told_as Queue (told_of d)) counts.queue);
  number = c ∙ (ap (λ (x : Kind). old.number + (if is_kind Number x then 1 else 0)) is ∙ ap (λ (n : ℕ). n + is_told_as Number (told_of d)) counts.number);
  fresh = e ∙ (ap (λ (x : Kind). old.fresh + (if is_kind Fresh x then 1 else 0)) is ∙ ap (λ (n : ℕ). n + is_told_as Fresh (told_of d)) counts.fresh);
}

-- ---- the lines of a text
pub record IsSurveyedUpTo (text rest : List ℕ) (number : ℕ) (head : Head) (s : Surveyor) : Type 0 where
  pub past : History
  pub prior : History
  pub before : IsReadUpTo text rest number head past
  pub begins : BeginsAfter text head prior
  pub at : SurveysAt head prior past before.lines s

abbrev pub SurveyedUpTo : List ℕ → Option (List ℕ) → ℕ → Head → Surveyor → Type 0
SurveyedUpTo text None number head s = ⊥
SurveyedUpTo text (Some rest) number head s = IsSurveyedUpTo text rest number head s

reverse_more : (line : ℕ × List ℕ) (lines rest : List (ℕ × List ℕ)) → reverse lines ++ line ∷ rest ≡ reverse (line ∷ lines) ++ rest
reverse_more line lines rest = sym (append_assoc (reverse lines) (line ∷ []) rest) ∙ ap (λ (ls : List (ℕ × List ℕ)). ls ++ rest) (sym (reverse-cons line lines))

-- after the head
pub surveyed_head : (text : List ℕ) (n : ℕ) (new : Option (List ℕ)) (start : Kept) (s : Surveyor) → CanBegin start → TakesTold (λ line. start_of_line line ≡ Ok start) 0 (Some text) n new
    → ((prior : History) (lines : List (ℕ × List ℕ)) → IsPrior start prior → SurveysAt (head_of_kept start) prior [] lines s) → SurveyedUpTo text new n (head_of_kept start) s
surveyed_head text n None start s can t at = t
surveyed_head text n (Some rest) start s can (line, split, is, all) at =
    let (prior, before, quiet) = priors start can in
    record {
      past = [];
      prior = prior;
      before = record { lines = (n, line) ∷ []; split = split; tells = ((n, line), refl, ap (seen_by head_of_kept) is) };
      begins = (start, ap start_of_told split ∙ is, refl, before);
      at = at prior ((n, line) ∷ []) before;
    }

-- after one event more
pub surveyed_more : (text : List ℕ) (m : ℕ) (old : Option (List ℕ)) (n : ℕ) (new : Option (List ℕ)) (quoted : List ℕ) (head : Head) (s next : Surveyor) (e : ArbitrationEvent)
    → SurveyedUpTo text old m head s → TakesTold (λ line. event_by Profile line ≡ Ok e) m old n new → TakesTold (λ line. line ≡ quoted) m old n new
    → ((prior past : History) (lines : List (ℕ × List ℕ)) → SurveysAt head prior past lines s → SurveysAt head prior (e ∷ past) ((n, quoted) ∷ lines) next)
    → SurveyedUpTo text new n head next
surveyed_more text m None n new quoted head s next e j t q f = absurd j
surveyed_more text m (Some xs) n None quoted head s next e j t q f = absurd t
surveyed_more text m (Some xs) n (Some ys) quoted head s next e j (line, split, is, all) (one, split', same, also) f =
    let there : line ≡ quoted = same_text n line one _ _ (sym split ∙ split') ∙ same in
    record {
      past = e ∷ j.past;
      prior = j.prior;
      before = record {
        lines = (n, quoted) ∷ j.before.lines;
        split = j.before.split ∙ (ap (λ (ls : List (ℕ × List ℕ)). reverse j.before.lines ++ ls) (split ∙ ap (λ (l : List ℕ). (n, l) ∷ numbered n (lines_of ys)) there)
            ∙ reverse_more (n, quoted) j.before.lines (numbered n (lines_of ys)));
        tells = ((n, quoted), j.before.lines, refl, subst (λ (l : List ℕ). event_by Profile l ≡ Ok e) there is, j.before.tells);
      };
      begins = j.begins;
      at = f j.prior j.past j.before.lines j.at;
    }

-- after the last line
pub surveyed_all : (text : List ℕ) (old : Option (List ℕ)) (number : ℕ) (head : Head) (s : Surveyor) → SurveyedUpTo text old number head s → HasNoTold number old → IsSurvey text s.survey
surveyed_all text None number head s j n = absurd j
surveyed_all text (Some xs) number head s j n =
    let lines : List (ℕ × List ℕ) = j.before.lines in
    let all : told_lines text ≡ reverse lines = j.before.split ∙ ap (λ (ls : List (ℕ × List ℕ)). reverse lines ++ ls) n ∙ append-nil (reverse lines) in
    let back : lines ≡ reverse (told_lines text) = sym (ap reverse all ∙ reverse-reverse lines) in record {
      head = head;
      past = j.past;
      prior = j.prior;
      tells = subst (TellsBy Profile head j.past) back j.before.tells;
      begins = j.begins;
      told = subst (λ (ls : List (ℕ × List ℕ)). IsSurveyOf head j.prior j.past ls s.survey) back j.at.told;
    }

-- at a line that is faulty
pub surveyed_fault : (text : List ℕ) (old : Option (List ℕ)) (number : ℕ) (head : Head) (s : Surveyor) (e : TraceError) → SurveyedUpTo text old number head s → IsEventFaultBy Profile e number old → IsReadFault text e
surveyed_fault text None number head s e j f = absurd j
surveyed_fault text (Some xs) number head s e j f = inr (record { head = head; past = j.past; number = number; rest = xs; before = j.before; fault = f })

-- memory was refused, or a read failed
pub no_memory : (text : List ℕ) (e : TraceError) → e ≡ error.NoMemory → IsReadFault text e
no_memory text e is = subst (λ (x : TraceError). IsReadFault text x) (sym is) (inl tt)

later : (P : List ℕ → Type 0) (known : Option (List ℕ)) (n : ℕ) (new : Option (List ℕ)) (start : Kept) → TakesTold (λ line. start_of_line line ≡ Ok start) 0 known n new
    → ((text : List ℕ) → TakesTold (λ line. start_of_line line ≡ Ok start) 0 (Some text) n new → P text) → IfSome known P
later P None n new start t h = tt
later P (Some text) n new start t h = h text t

-- ---- where no pick is told
some_kind : (k : Kind) → (if is_kind NothingReady k then 1 else 0) + ((if is_kind Queue k then 1 else 0) + ((if is_kind Number k then 1 else 0) + (if is_kind Fresh k then 1 else 0))) ≡ 1
some_kind NothingReady = refl
some_kind Queue = refl
some_kind Number = refl
some_kind Fresh = refl

none_told : (counts : Counts) (all : List Told) → AreCounts counts all → AreNone counts → all ≡ []
none_told counts [] c n = refl
none_told counts (told ∷ all) c n =
    let one = some_kind (kind_of told.finding.lawful told.finding.picked) in
    absurd (omega (arith, one, c.nothing_ready, c.queue, c.number, c.fresh, n.nothing_ready, n.queue, n.number, n.fresh))

lawful_lines : (head : Head) (prior past : History) (lines : List (ℕ × List ℕ)) (all : List Told) → AreDifferences head prior past lines all → all ≡ [] → IsTakenAfter head.mechanism head.settings prior past (rooms_of lines)
lawful_lines head prior [] lines all d none = tt
lawful_lines head prior (Changed settings ∷ past) lines all (line, earlier, is, d) none =
    subst (λ (ls : List (ℕ × List ℕ)). IsTakenAfter head.mechanism head.settings prior (Changed settings ∷ past) (rooms_of ls)) (sym is) (lawful_lines head prior past earlier all d none)
lawful_lines head prior (Picked seen pick ∷ past) lines all (line, earlier, is, o, inl (l, d)) none =
    subst (λ (ls : List (ℕ × List ℕ)). IsTakenAfter head.mechanism head.settings prior (Picked seen pick ∷ past) (rooms_of ls)) (sym is) (o, l, lawful_lines head prior past earlier all d none)
lawful_lines head prior (Picked seen pick ∷ past) lines all (line, earlier, is, o, inr (finding, others, more, different, d)) none = let no : record { line = line.0; quoted = line.1; finding = finding } ∷ others ≡ [] = sym more ∙ none in absurd (cc no)

pub lawful_survey : LawfulSurveys
lawful_survey text survey s n = record {
  head = s.head;
  past = s.past;
  prior = s.prior;
  tells = s.tells;
  begins = s.begins;
  lawful = lawful_lines s.head s.prior s.past _ s.told.all s.told.differences (none_told survey.counts s.told.all s.told.counts n);
  picks_are = s.told.picks;
}

-- what follows where something is done
pub after_ok : {T E : Type 0} (result : Result T E) (P Q : Type 0) → OnOk result P → (P → Q) → OnOk result Q
after_ok (Ok t) P Q h f = f h
after_ok (Err e) P Q h f = tt
