-- The lines of the trace of a lawful run.
use Rattle.std.proofs.Common.{◌≡◌, ℕ, ◌+◌, ◌<◌, ◌≤◌, ◌==◌, nat_le, Bool, true, false, List, [], ◌∷◌, ◌++◌, length, reverse, find, Some, IfSome, inl, inr, refl, sym, ap, subst, ◌∙◌, arith, append_assoc, append-nil}
use Rattle.std.specs.Prelude.{if◌then◌else◌}
use Rattle.std.specs.List.{flat_map}
use Rattle.std.proofs.lemmas.Bool.{and_parts, leb-true, eqb-true, cases_Bool, cond-true, cond-false}
use Rattle.std.proofs.lemmas.Grind.{flat_map-append}
use Rattle.std.proofs.lemmas.List.{length-reverse}
use mathlib.Core.List.{reverse-cons, reverse-reverse}
use Rattle.nvme_arbiter.specs.Settings.{ArbitrationFields, FitsFields}
use Rattle.nvme_arbiter.specs.Observation.{IsSeen, IsObservation, is_seen, can_follow, is_observation_from}
use Rattle.nvme_arbiter.specs.History.{History, Picked, Changed}
use Rattle.nvme_arbiter.specs.Lawful.{IsLawfulPick, IsLawfulRun}
use Rattle.nvme_arbiter.specs.declared.settings.Mechanism.{Mechanism}
use Rattle.nvme_arbiter.specs.declared.pick.Seen.{Seen}
use Rattle.nvme_arbiter.specs.declared.pick.Pick.{Pick}
use Rattle.nvme_arbiter.proofs.NextLemmas.{IfSome-find}
use Rattle.nvme_arbiter.proofs.Observations.{tested}
use Rattle.nvme_arbiter.proofs.PickLaws.{picks_are_measured}
use Rattle.nvme_log.specs.declared.event.Event.{Event}
use Rattle.nvme_log.specs.declared.event.Event.TheVariants as event
use Rattle.nvme_log.specs.Rules.{Past}
use Rattle.nvme_log.specs.Histories.{arbitration_of}
use Rattle.nvme_lines.specs.Lines.{lines_of, is_blank, numbered, told_lines}
use Rattle.nvme_tracer.specs.Text.{text_of_head, text_of_event, trace_text, text_of_pick, text_of_set}
use Rattle.nvme_trace.specs.Checks.{Tells}
use Rattle.nvme_trace.specs.Format.{rooms_of}
use Rattle.nvme_trace.specs.Taken.{TellNoRoom}
use Rattle.nvme_tracer.proofs.PlainLines.{is_plain, plain_line}
use Rattle.nvme_tracer.proofs.ShortLines.{short_head, short_set, short_pick}
use Rattle.nvme_tracer.proofs.WrittenJson.{head_bytes, set_bytes, pick_bytes, head_ends, set_ends, pick_ends}
use Rattle.nvme_tracer.proofs.ReadLines.{head_read, set_read, pick_read, head_room, set_room, pick_room}

-- ---- the picks of a lawful run are small
few_from : (least : ℕ) (seen : List Seen) → least ≤ 65 → is_observation_from least seen ≡ true → length seen + least ≤ 65
few_from least [] le h = omega arith
few_from least (s ∷ rest) le h =
    let b = and_parts (can_follow least s) (is_observation_from (s.qid + 1) rest) h in
    let a = and_parts (nat_le least s.qid) (is_seen s) b.0 in
    let low : least ≤ s.qid = leb-true least s.qid a.0 in
    let high : s.qid ≤ 64 = leb-true s.qid 64 (and_parts (nat_le s.qid 64) _ a.1).0 in
    let more = few_from (s.qid + 1) rest (omega arith) b.1 in
    omega arith

few_seen : (seen : List Seen) → IsObservation seen → length seen ≤ 65
few_seen seen o = let h = few_from 0 seen (omega arith) ((tested seen).1 o) in omega arith

found_qid : (q : ℕ) (seen : List Seen) (queue : Seen) → find (λ (s : Seen). s.qid == q) seen ≡ Some queue → queue.qid ≡ q
found_qid q [] queue h = absurd (cc)
found_qid q (s ∷ rest) queue h =
    elim (cases_Bool (s.qid == q)) [
      | inl t ↦ (let e : Some s ≡ Some queue = sym (cond-true (s.qid == q) (Some s) (find (λ (x : Seen). x.qid == q) rest) t) ∙ h in
          let same : s ≡ queue = cc in
          subst (λ (x : Seen). x.qid ≡ q) same (eqb-true s.qid q t))
      | inr f ↦ found_qid q rest queue (sym (cond-false (s.qid == q) (Some s) (find (λ (x : Seen). x.qid == q) rest) f) ∙ h)
    ]

record IsSmallPick (seen : List Seen) (pick : Pick) : Type 0 where
  pub few : length seen ≤ 65
  pub qid : pick.qid < 65536
  pub n : pick.n < 65536

small_pick : (mechanism : Mechanism) (first : ArbitrationFields) (past : History) (seen : List Seen) (pick : Pick) → IsObservation seen → IsLawfulPick mechanism first past seen pick → IsSmallPick seen pick
small_pick mechanism first past seen pick o l =
    let m = picks_are_measured mechanism first past seen pick o l in
    let seen_one : IsSeen m.queue = subst (λ x. IfSome x IsSeen) m.was_seen (IfSome-find IsSeen (λ (s : Seen). s.qid == pick.qid) seen o.each) in
    let same : m.queue.qid ≡ pick.qid = found_qid pick.qid seen m.queue m.was_seen in
    record {
      few = few_seen seen o;
      qid = omega (arith, same, seen_one.qid);
      n = omega (arith, m.within_count, seen_one.count);
    }

-- ---- the lines of a history, the last one first
abbrev pub SettingsFit : History → Type 0
SettingsFit [] = Unit {0}
SettingsFit (Picked seen pick ∷ past) = SettingsFit past
SettingsFit (Changed settings ∷ past) = FitsFields settings × SettingsFit past

abbrev pub written_lines : Mechanism → ArbitrationFields → History → List (List ℕ)
written_lines mechanism first [] = head_bytes mechanism first ∷ []
written_lines mechanism first (Picked seen pick ∷ past) = pick_bytes seen pick ∷ written_lines mechanism first past
written_lines mechanism first (Changed settings ∷ past) = set_bytes settings ∷ written_lines mechanism first past

-- with their numbers
abbrev pub counted : List (List ℕ) → List (ℕ × List ℕ)
counted [] = []
counted (line ∷ lines) = (length lines + 1, line) ∷ counted lines

pub lines_tell : (mechanism : Mechanism) (first : ArbitrationFields) (past : History) → FitsFields first → SettingsFit past → IsLawfulRun mechanism first past
    → Tells (record { mechanism = mechanism; settings = first }) past (counted (written_lines mechanism first past))
lines_tell mechanism first [] f s l = ((1, head_bytes mechanism first), refl, head_read mechanism first f)
lines_tell mechanism first (Picked seen pick ∷ past) f s l =
    let small = small_pick mechanism first past seen pick l.0 l.1 in
    let lines : List (List ℕ) = written_lines mechanism first past in
    ((length lines + 1, pick_bytes seen pick), counted lines, refl, pick_read seen pick l.0 small.few small.qid small.n, lines_tell mechanism first past f s l.2)
lines_tell mechanism first (Changed settings ∷ past) f s l =
    let lines : List (List ℕ) = written_lines mechanism first past in
    ((length lines + 1, set_bytes settings), counted lines, refl, set_read settings s.0, lines_tell mechanism first past f s.1 l)

-- none of them tells a room
pub lines_no_room : (mechanism : Mechanism) (first : ArbitrationFields) (past : History) → FitsFields first → SettingsFit past → IsLawfulRun mechanism first past → TellNoRoom (rooms_of (counted (written_lines mechanism first past)))
lines_no_room mechanism first [] f s l = (head_room mechanism first f, tt)
lines_no_room mechanism first (Picked seen pick ∷ past) f s l =
    let small = small_pick mechanism first past seen pick l.0 l.1 in
    (pick_room seen pick l.0 small.few small.qid small.n, lines_no_room mechanism first past f s l.2)
lines_no_room mechanism first (Changed settings ∷ past) f s l = (set_room settings s.0, lines_no_room mechanism first past f s.1 l)

-- none of them is blank
abbrev NoneIsBlank : List (List ℕ) → Type 0
NoneIsBlank [] = Unit {0}
NoneIsBlank (line ∷ lines) = (is_blank line ≡ false) × NoneIsBlank lines

none_blank : (mechanism : Mechanism) (first : ArbitrationFields) (past : History) → NoneIsBlank (written_lines mechanism first past)
none_blank mechanism first [] = (refl, tt)
none_blank mechanism first (Picked seen pick ∷ past) = (refl, none_blank mechanism first past)
none_blank mechanism first (Changed settings ∷ past) = (refl, none_blank mechanism first past)

numbered_one : (b : Bool) (n : ℕ) (line : List ℕ) → b ≡ false → (if b then numbered (n + 1) [] else (n + 1, line) ∷ numbered (n + 1) []) ≡ (n + 1, line) ∷ []
numbered_one b n line e = ap (λ (c : Bool). if c then numbered (n + 1) [] else (n + 1, line) ∷ numbered (n + 1) []) e

numbered_behind : (b : Bool) (n : ℕ) (line last : List ℕ) (lines : List (List ℕ)) → is_blank line ≡ b → numbered (n + 1) (lines ++ last ∷ []) ≡ numbered (n + 1) lines ++ (n + 1 + length lines + 1, last) ∷ []
    → numbered n ((line ∷ lines) ++ last ∷ []) ≡ numbered n (line ∷ lines) ++ (n + length (line ∷ lines) + 1, last) ∷ []
numbered_behind true n line last lines is more =
    let same : n + 1 + length lines + 1 ≡ n + length (line ∷ lines) + 1 = omega arith in
    rw is (more ∙ ap (λ (k : ℕ). numbered (n + 1) lines ++ (k, last) ∷ []) same)
numbered_behind false n line last lines is more =
    let same : n + 1 + length lines + 1 ≡ n + length (line ∷ lines) + 1 = omega arith in
    rw is (ap (λ (ls : List (ℕ × List ℕ)). (n + 1, line) ∷ ls) (more ∙ ap (λ (k : ℕ). numbered (n + 1) lines ++ (k, last) ∷ []) same))

-- a line more behind others
numbered_last : (n : ℕ) (lines : List (List ℕ)) (last : List ℕ) → is_blank last ≡ false → numbered n (lines ++ last ∷ []) ≡ numbered n lines ++ (n + length lines + 1, last) ∷ []
numbered_last n [] last told =
    let same : n + 1 ≡ n + length {A = List ℕ} [] + 1 = omega arith in
    numbered_one (is_blank last) n last told ∙ ap (λ (k : ℕ). (k, last) ∷ []) same
numbered_last n (line ∷ lines) last told = numbered_behind (is_blank line) n line last lines refl (numbered_last (n + 1) lines last told)

numbered_turned : (lines : List (List ℕ)) → NoneIsBlank lines → numbered 0 (reverse lines) ≡ reverse (counted lines)
numbered_turned [] none = refl
numbered_turned (line ∷ lines) none =
    let same : 0 + length (reverse lines) + 1 ≡ length lines + 1 = omega (arith, length-reverse lines) in
    ap (numbered 0) (reverse-cons line lines) ∙ (numbered_last 0 (reverse lines) line none.0
    ∙ (ap (λ (k : ℕ). numbered 0 (reverse lines) ++ (k, line) ∷ []) same
    ∙ (ap (λ (ls : List (ℕ × List ℕ)). ls ++ (length lines + 1, line) ∷ []) (numbered_turned lines none.1)
    ∙ sym (reverse-cons (length lines + 1, line) (counted lines)))))

-- ---- the lines of a trace
-- one line more
line_more : (text bytes rest : List ℕ) → text ≡ bytes ++ 10 ∷ [] → is_plain bytes ≡ true → lines_of (text ++ rest) ≡ bytes ∷ lines_of rest
line_more text bytes rest e p = ap (λ (t : List ℕ). lines_of (t ++ rest)) e ∙ (ap lines_of (append_assoc bytes (10 ∷ []) rest) ∙ plain_line bytes rest p)

text_more : (mechanism : Mechanism) (first : ArbitrationFields) (past : Past) (e : Event) (rest : List ℕ)
    → trace_text mechanism first (reverse (e ∷ past)) ++ rest ≡ trace_text mechanism first (reverse past) ++ (text_of_event e ++ rest)
text_more mechanism first past e rest =
    let head : List ℕ = text_of_head mechanism first in
    let before : List ℕ = flat_map text_of_event (reverse past) in
    let split : flat_map text_of_event (reverse (e ∷ past)) ≡ before ++ text_of_event e =
    ap (flat_map text_of_event) (reverse-cons e past) ∙ (flat_map-append text_of_event (reverse past) (e ∷ []) ∙ ap (λ (l : List ℕ). before ++ l) (append-nil (text_of_event e))) in
    ap (λ (l : List ℕ). (head ++ l) ++ rest) split
    ∙ (ap (λ (l : List ℕ). l ++ rest) (sym (append_assoc head before (text_of_event e))) ∙ append_assoc (head ++ before) (text_of_event e) rest)

turn_more : (line : List ℕ) (lines rest : List (List ℕ)) → reverse lines ++ line ∷ rest ≡ reverse (line ∷ lines) ++ rest
turn_more line lines rest = sym (append_assoc (reverse lines) (line ∷ []) rest) ∙ ap (λ (ls : List (List ℕ)). ls ++ rest) (sym (reverse-cons line lines))

trace_lines : (mechanism : Mechanism) (first : ArbitrationFields) (past : Past) (rest : List ℕ) → FitsFields first → SettingsFit (arbitration_of past) → IsLawfulRun mechanism first (arbitration_of past)
    → lines_of (trace_text mechanism first (reverse past) ++ rest) ≡ reverse (written_lines mechanism first (arbitration_of past)) ++ lines_of rest
trace_lines mechanism first [] rest f s l =
    ap (λ (t : List ℕ). lines_of (t ++ rest)) (append-nil (text_of_head mechanism first))
    ∙ line_more (text_of_head mechanism first) (head_bytes mechanism first) rest (head_ends mechanism first) (short_head mechanism first f).plain
trace_lines mechanism first (event.Pick seen pick ∷ past) rest f s l =
    let small = small_pick mechanism first (arbitration_of past) seen pick l.0 l.1 in
    let lines : List (List ℕ) = written_lines mechanism first (arbitration_of past) in
    ap lines_of (text_more mechanism first past (event.Pick seen pick) rest)
    ∙ (trace_lines mechanism first past (text_of_pick seen pick ++ rest) f s l.2
    ∙ (ap (λ (ls : List (List ℕ)). reverse lines ++ ls)
    (line_more (text_of_pick seen pick) (pick_bytes seen pick) rest (pick_ends seen pick) (short_pick seen pick l.0.each small.few small.qid small.n).plain)
    ∙ turn_more (pick_bytes seen pick) lines (lines_of rest)))
trace_lines mechanism first (event.SetArbitration settings ∷ past) rest f s l =
    let lines : List (List ℕ) = written_lines mechanism first (arbitration_of past) in
    ap lines_of (text_more mechanism first past (event.SetArbitration settings) rest)
    ∙ (trace_lines mechanism first past (text_of_set settings ++ rest) f s.1 l
    ∙ (ap (λ (ls : List (List ℕ)). reverse lines ++ ls) (line_more (text_of_set settings) (set_bytes settings) rest (set_ends settings) (short_set settings s.0).plain)
    ∙ turn_more (set_bytes settings) lines (lines_of rest)))
trace_lines mechanism first (e ∷ past) rest f s l = ap lines_of (text_more mechanism first past e rest) ∙ trace_lines mechanism first past rest f s l

-- the lines of a trace
trace_told : (mechanism : Mechanism) (first : ArbitrationFields) (past : Past) → FitsFields first → SettingsFit (arbitration_of past) → IsLawfulRun mechanism first (arbitration_of past)
    → counted (written_lines mechanism first (arbitration_of past)) ≡ reverse (told_lines (trace_text mechanism first (reverse past)))
trace_told mechanism first past f s l =
    let text : List ℕ = trace_text mechanism first (reverse past) in
    let lines : List (List ℕ) = written_lines mechanism first (arbitration_of past) in
    let all : lines_of text ≡ reverse lines = ap lines_of (sym (append-nil text)) ∙ (trace_lines mechanism first past [] f s l ∙ append-nil (reverse lines)) in
    let told : told_lines text ≡ reverse (counted lines) = ap (numbered 0) all ∙ numbered_turned lines (none_blank mechanism first (arbitration_of past)) in
    sym (ap reverse told ∙ reverse-reverse (counted lines))

-- a trace tells its head and its history
pub trace_tells : (mechanism : Mechanism) (first : ArbitrationFields) (past : Past) → FitsFields first → SettingsFit (arbitration_of past) → IsLawfulRun mechanism first (arbitration_of past)
    → Tells (record { mechanism = mechanism; settings = first }) (arbitration_of past) (reverse (told_lines (trace_text mechanism first (reverse past))))
trace_tells mechanism first past f s l =
    subst (Tells (record { mechanism = mechanism; settings = first }) (arbitration_of past)) (trace_told mechanism first past f s l) (lines_tell mechanism first (arbitration_of past) f s l)

-- and no room
pub trace_no_room : (mechanism : Mechanism) (first : ArbitrationFields) (past : Past) → FitsFields first → SettingsFit (arbitration_of past) → IsLawfulRun mechanism first (arbitration_of past)
    → TellNoRoom (rooms_of (reverse (told_lines (trace_text mechanism first (reverse past)))))
trace_no_room mechanism first past f s l =
    subst (λ (ls : List (ℕ × List ℕ)). TellNoRoom (rooms_of ls)) (trace_told mechanism first past f s l) (lines_no_room mechanism first (arbitration_of past) f s l)
