-- A text has one answer: where each pick is allowed, no line of it has a pick that is not.
use Rattle.std.proofs.Common.{◌≡◌, ℕ, List, [], ◌∷◌, ◌++◌, reverse, Result, Ok, refl, sym, ap, subst, ◌∙◌, append_assoc}
use mathlib.Core.List.{reverse-cons, reverse-append, reverse-reverse}
use Rattle.nvme_arbiter.specs.History.{ArbitrationEvent, Picked, Changed, History, settings_after}
use Rattle.nvme_arbiter.specs.Standing.{StandsAt}
use Rattle.nvme_arbiter.specs.declared.kept.Kept.{Kept}
use Rattle.nvme_arbiter.proofs.SpecifiedLaws.{lawful_specified}
use Rattle.nvme_arbiter.specs.declared.kept.Used.{Used}
use Rattle.nvme_judge.specs.Standing.{UsedIs, IsQuiet}
use Rattle.nvme_judge.specs.Starts.{IsPrior}
use Rattle.nvme_trace.proofs.PriorLemmas.{taken_alike, keeps_alike, taken_after_alike, specified_alike}
use Rattle.nvme_trace.specs.declared.fault.LineFault.{LineFault}
use Rattle.nvme_trace.specs.Taken.{IsTakenAfter}
use Rattle.nvme_arbiter.specs.Specified.{IsSpecifiedRun}
use Rattle.nvme_lines.specs.Lines.{told_lines}
use Rattle.nvme_trace.specs.Format.{head_of_kept, head_by, event_by, room_of_line, rooms_of}
use Rattle.nvme_trace.specs.Judged.{IsFinding}
use Rattle.nvme_trace.specs.Bases.{IsRunBy, IsBreach, IsReasonBy}
use Rattle.nvme_trace.specs.Checks.{TellsBy, AllowedAfterEach, OneAnswer, start_of_told}
use Rattle.nvme_trace.specs.declared.records.Head.{Head}
use Rattle.nvme_trace.specs.declared.judge.Finding.{Finding}
use Rattle.nvme_trace.specs.declared.basis.Basis.{Basis}
use Rattle.nvme_trace.specs.declared.basis.Basis.TheVariants.{Profile, Specification}
use Rattle.nvme_trace.specs.declared.judges.Breach.{Breach}
use Rattle.nvme_trace.specs.declared.judges.Reason.{Reason}
use Rattle.nvme_trace.specs.declared.judges.Reason.TheVariants.{Differs, Breaks}

nothing_told : (basis : Basis) (head : Head) (past : History) → TellsBy basis head past [] → ⊥
nothing_told basis head [] (line, is, h) = cc
nothing_told basis head (e ∷ past) (line, earlier, is, says, more) = cc

-- some lines tell one head and one history
pub record AreSame (h k : Head) (p q : History) : Type 0 where
  pub heads : h ≡ k
  pub pasts : p ≡ q

same_head : (r : List ℕ) (h k : Head) → head_by r ≡ Ok h → head_by r ≡ Ok k → h ≡ k
same_head r h k a b = cc

same_event : (basis : Basis) (r : List ℕ) (h k : ArbitrationEvent) → event_by basis r ≡ Ok h → event_by basis r ≡ Ok k → h ≡ k
same_event basis r h k a b = cc

pub same_told : (basis : Basis) (h k : Head) (p q : History) (lines : List (ℕ × List ℕ)) → TellsBy basis h p lines → TellsBy basis k q lines → AreSame h k p q
same_told basis h k [] [] lines (a, is, x) (b, at, y) =
    let e : a ≡ b = cc in
    record { heads = same_head b.1 h k (subst (λ (l : ℕ × List ℕ). head_by l.1 ≡ Ok h) e x) y; pasts = refl }
same_told basis h k [] (e ∷ q) lines (a, is, x) (b, earlier, at, y, more) =
    let none : earlier ≡ [] = cc in
    absurd (nothing_told basis k q (subst (TellsBy basis k q) none more))
same_told basis h k (e ∷ p) [] lines (a, earlier, is, x, more) (b, at, y) =
    let none : earlier ≡ [] = cc in
    absurd (nothing_told basis h p (subst (TellsBy basis h p) none more))
same_told basis h k (d ∷ p) (e ∷ q) lines (a, before, is, x, more) (b, earlier, at, y, rest) =
    let one : a ≡ b = cc in
    let both : before ≡ earlier = cc in
    let below = same_told basis h k p q earlier (subst (TellsBy basis h p) both more) rest in
    let event : d ≡ e = same_event basis b.1 d e (subst (λ (l : ℕ × List ℕ). event_by basis l.1 ≡ Ok d) one x) y in
    let pasts : p ≡ q = below.pasts in
    record { heads = below.heads; pasts = cc }

-- the events before the latest are a run
run_before : (basis : Basis) (head : Head) (prior : History) (e : ArbitrationEvent) (past : History) (line : ℕ × List ℕ) (lines : List (ℕ × List ℕ)) → IsRunBy basis head prior (e ∷ past) (line ∷ lines) → IsRunBy basis head prior past lines
run_before Profile head prior (Picked seen pick) past line lines r = r.2
run_before Profile head prior (Changed settings) past line lines r = r
run_before Specification head prior (Picked seen pick) past line lines r = r.2
run_before Specification head prior (Changed settings) past line lines r = r

-- what a line tells within more lines
record IsTold (basis : Basis) (head : Head) (prior : History) (at : ℕ × List ℕ) (earlier : List (ℕ × List ℕ)) : Type 0 where
  pub event : ArbitrationEvent
  pub before : History
  pub run : IsRunBy basis head prior (event ∷ before) (at ∷ earlier)
  pub says : event_by basis at.1 ≡ Ok event
  pub tells : TellsBy basis head before earlier

not_empty : (xs : List (ℕ × List ℕ)) (at : ℕ × List ℕ) (earlier : List (ℕ × List ℕ)) → xs ++ at ∷ earlier ≡ [] → ⊥
not_empty [] at earlier e = cc
not_empty (x ∷ xs) at earlier e = cc

told_within : (basis : Basis) (head other : Head) (prior past q : History) (later : List (ℕ × List ℕ)) (at : ℕ × List ℕ) (earlier : List (ℕ × List ℕ)) → TellsBy basis head past (later ++ at ∷ earlier) → TellsBy basis other q earlier → IsRunBy basis head prior past (later ++ at ∷ earlier)
    → IsTold basis head prior at earlier
told_within basis head other prior [] q [] at earlier (line, is, h) t r =
    let none : earlier ≡ [] = cc in
    absurd (nothing_told basis other q (subst (TellsBy basis other q) none t))
told_within basis head other prior (e ∷ past) q [] at earlier (line, before, is, says, more) t r =
    let one : line ≡ at = cc in
    let rest : before ≡ earlier = cc in
    record { event = e; before = past; run = r; says = subst (λ (l : ℕ × List ℕ). event_by basis l.1 ≡ Ok e) one says; tells = subst (TellsBy basis head past) rest more }
told_within basis head other prior [] q (x ∷ xs) at earlier (line, is, h) t r =
    let none : xs ++ at ∷ earlier ≡ [] = cc in
    absurd (not_empty xs at earlier none)
told_within basis head other prior (e ∷ past) q (x ∷ xs) at earlier (line, before, is, says, more) t r =
    let rest : before ≡ xs ++ at ∷ earlier = cc in
    told_within basis head other prior past q xs at earlier (subst (TellsBy basis head past) rest more) t (run_before basis head prior e past x (xs ++ at ∷ earlier) r)

-- there is no reason against an event that is allowed, whatever the history before the trace was
no_finding : (head : Head) (p q past : History) (at : ℕ × List ℕ) (earlier : List (ℕ × List ℕ)) (event : ArbitrationEvent) (finding : Finding) (start : Kept) → StandsAt head.mechanism head.settings p start → StandsAt head.mechanism head.settings q start
    → IsTakenAfter head.mechanism head.settings p (event ∷ past) (rooms_of (at ∷ earlier)) → IsFinding head.mechanism head.settings (past ++ q) (room_of_line at.1) event finding → ⊥
no_finding head p q past at earlier event finding start a b run f =
    let taken : IsTakenAfter head.mechanism head.settings p (Picked f.seen finding.picked ∷ past) (rooms_of (at ∷ earlier)) = subst (λ e. IsTakenAfter head.mechanism head.settings p (e ∷ past) (rooms_of (at ∷ earlier))) f.event_is run in
    f.other (f.lawful_is ∙ taken_alike head.settings p q start head.mechanism a b past (room_of_line at.1) f.seen finding.picked taken.1)

no_breach : (head : Head) (p q past : History) (event : ArbitrationEvent) (breach : Breach) (used : Used) → settings_after head.settings p ≡ settings_after head.settings q → UsedIs head.mechanism head.settings p used → UsedIs head.mechanism head.settings q used → IsQuiet q
    → IsSpecifiedRun head.mechanism head.settings (event ∷ past ++ p) → IsBreach head (past ++ q) event breach → ⊥
no_breach head p q past event breach used e u v quiet run f =
    let allowed : IsSpecifiedRun head.mechanism head.settings (Picked f.seen breach.picked ∷ past ++ p) = subst (λ e. IsSpecifiedRun head.mechanism head.settings (e ∷ past ++ p)) f.event_is run in
    f.broken.breaks (keeps_alike head.mechanism head.settings p q past f.seen breach.picked used e u v quiet breach.rule (allowed.1 breach.rule))

no_reason : (basis : Basis) (start : Kept) (p q past : History) (at : ℕ × List ℕ) (earlier : List (ℕ × List ℕ)) (event : ArbitrationEvent) (reason : Reason) → IsPrior start p → IsPrior start q → IsQuiet q
    → IsRunBy basis (head_of_kept start) p (event ∷ past) (at ∷ earlier) → IsReasonBy basis (head_of_kept start) (past ++ q) (room_of_line at.1) event reason → ⊥
no_reason Profile start p q past at earlier event (Differs finding) a b quiet run f = no_finding (head_of_kept start) p q past at earlier event finding start a.stands b.stands run f
no_reason Profile start p q past at earlier event (Breaks breach) a b quiet run f = f
no_reason Specification start p q past at earlier event (Breaks breach) a b quiet run f =
    no_breach (head_of_kept start) p q past event breach start.used (sym a.stands.settings_are ∙ b.stands.settings_are) a.used b.used quiet run f
no_reason Specification start p q past at earlier event (Differs finding) a b quiet run f = f

turned : (earlier later : List (ℕ × List ℕ)) (at : ℕ × List ℕ) → reverse (reverse earlier ++ at ∷ later) ≡ reverse later ++ at ∷ earlier
turned earlier later at =
    reverse-append (reverse earlier) (at ∷ later) ∙ (ap (λ (l : List (ℕ × List ℕ)). l ++ reverse (reverse earlier)) (reverse-cons at later)
    ∙ (append_assoc (reverse later) (at ∷ []) (reverse (reverse earlier)) ∙ ap (λ (l : List (ℕ × List ℕ)). reverse later ++ at ∷ l) (reverse-reverse earlier)))

same_start : (r : Result Kept LineFault) (a b : Kept) → r ≡ Ok a → r ≡ Ok b → a ≡ b
same_start r a b x y = cc

pub one_answer : OneAnswer
one_answer basis text picks line quoted reason l u =
    let lines : reverse (told_lines text) ≡ reverse u.later ++ (line, quoted) ∷ u.earlier = ap reverse u.split ∙ turned u.earlier u.later (line, quoted) in
    let told = told_within basis l.head u.head l.prior l.past u.past (reverse u.later) (line, quoted) u.earlier (subst (TellsBy basis l.head l.past) lines l.tells) u.tells (subst (IsRunBy basis l.head l.prior l.past) lines l.lawful) in
    let same = same_told basis l.head u.head told.before u.past u.earlier told.tells u.tells in
    let event : told.event ≡ u.event = same_event basis quoted told.event u.event told.says u.says in
    let at = (line, quoted) ∷ u.earlier in
    let (start, its, its_head, prior) = u.begins in
    let (other, reads, other_head, before) = l.begins in
    let one : other ≡ start = same_start (start_of_told (told_lines text)) other start reads its in
    let there : IsRunBy basis (head_of_kept start) l.prior (u.event ∷ u.past) at =
    subst (λ (h : Head). IsRunBy basis h l.prior (u.event ∷ u.past) at) (same.heads ∙ sym its_head)
    (subst (λ (e : ArbitrationEvent). IsRunBy basis l.head l.prior (e ∷ u.past) at) event
    (subst (λ (p : History). IsRunBy basis l.head l.prior (told.event ∷ p) at) same.pasts told.run)) in
    no_reason basis start l.prior u.prior u.past (line, quoted) u.earlier u.event reason (subst (λ (k : Kept). IsPrior k l.prior) one before) prior u.quiet there
    (subst (λ (h : Head). IsReasonBy basis h (u.past ++ u.prior) (room_of_line quoted) u.event reason) (sym its_head) u.reason_is)

-- ---- each history before a text will do
same_run : (basis : Basis) (start : Kept) (p q past : History) (lines : List (ℕ × List ℕ)) → IsPrior start p → IsPrior start q → IsQuiet q → IsRunBy basis (head_of_kept start) p past lines → IsRunBy basis (head_of_kept start) q past lines
same_run Profile start p q past lines a b quiet r = taken_after_alike start.settings p q start start.mechanism a.stands b.stands past (rooms_of lines) r
same_run Specification start p q past lines a b quiet r =
    specified_alike start.mechanism start.settings p q past start.used (sym a.stands.settings_are ∙ b.stands.settings_are) a.used b.used quiet (lawful_specified start.mechanism start.settings q b.lawful) r

pub each_prior : AllowedAfterEach
each_prior basis text picks l prior (other, reads, other_head, after) quiet =
    let (start, its, its_head, before) = l.begins in
    let one : other ≡ start = same_start (start_of_told (told_lines text)) other start reads its in
    let lines = reverse (told_lines text) in
    subst (λ (h : Head). IsRunBy basis h prior l.past lines) its_head
    (same_run basis start l.prior prior l.past lines before (subst (λ (k : Kept). IsPrior k prior) one after) quiet (subst (λ (h : Head). IsRunBy basis h l.prior l.past lines) (sym its_head) l.lawful))
