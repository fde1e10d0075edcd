-- A rule that is broken asked something.
use Rattle.std.proofs.Common.{◌≡◌, ℕ, ◌+◌, ◌%◌, ◌==◌, ◌&&◌, ◌||◌, not, nat_le, nat_lt, Bool, true, false, if◌then◌else◌, Option, None, Some, is_some, is_none, refl, sym, subst, ap}
use Rattle.nvme_entry.specs.Status.{StatusCode}
use Rattle.nvme_entry.specs.declared.admin.AdminCommand.{AdminCommand}
use Rattle.nvme_entry.specs.declared.admin.AdminCommand.TheVariants.{DeleteSq, CreateSq, DeleteCq, CreateCq, Abort, SetFeatures, GetFeatures, Other}
use Rattle.nvme_audit.specs.declared.event.Event.TheVariants.{Tail, Head, Fetch, Post}
use Rattle.nvme_audit.specs.declared.event.Event.{Event}
use Rattle.nvme_audit.specs.declared.facts.Start.{Start}
use Rattle.nvme_audit.specs.declared.facts.Ring.{Ring}
use Rattle.nvme_audit.specs.declared.facts.Sq.{Sq}
use Rattle.nvme_audit.specs.declared.facts.Cq.{Cq}
use Rattle.nvme_audit.specs.declared.facts.Command.{Command}
use Rattle.nvme_audit.specs.declared.verdict.Rule.{Rule}
use Rattle.nvme_audit.specs.declared.verdict.Rule.TheVariants as rule
use Rattle.nvme_audit.specs.declared.verdict.Verdict.{Verdict}
use Rattle.nvme_audit.specs.declared.verdict.Verdict.TheVariants.{Kept, Host, Broken}
use Rattle.nvme_audit.specs.declared.scene.FetchScene.{FetchScene}
use Rattle.nvme_audit.specs.declared.scene.PostScene.{PostScene}
use Rattle.nvme_audit.specs.declared.scene.Scene.TheVariants.{Unjudged}
use Rattle.nvme_audit.specs.Rings.{slots_of, phase_of, advanced, qsize_in}
use Rattle.nvme_audit.specs.declared.verdict.Breach.{Breach}
use Rattle.nvme_audit.specs.declared.verdict.Breach.TheVariants.{TailRange, TailFull, HeadRange}
use Rattle.nvme_audit.specs.Rules.{is_other, is_other_phase, is_other_head, fetch_rules, slot_checks, slot_rules, name_rules, name_verdict, if_kept}
use Rattle.nvme_audit.specs.Host.{first_failed, tail_rules, head_rules, is_lost}
use Rattle.nvme_audit.specs.Lawful.{ruled}
use Rattle.nvme_audit.specs.Turns.{sq_named, cq_named, cid_named}
use Rattle.nvme_audit.specs.Facts.{sq_after, cq_after, admin_after, outstanding}
use Rattle.nvme_audit.specs.Lives.{Past, is_success}
use Rattle.nvme_audit.specs.Aborts.{is_abort, is_aborted, told_of}
use Rattle.nvme_audit.specs.Answers.{has_specific, is_foreign, is_undoomed, is_unnamed, is_not_as_told, is_untrue_abort, is_untrue_of_features, is_specific, is_settled, is_attached, is_sq_within, is_cq_within, answered_in, mark_in, broken_if, status_rules, own_rules}
use Rattle.nvme_audit.specs.Coverage.{scene_read, scene_asks, fetch_asks, post_asks, is_named, is_owed, says_aborted_one, has_statuses, command_of, create_asks, delete_asks, sets_numbers}
use Rattle.nvme_audit.specs.CoverageLaws.{BrokenIsAsked}

abbrev rule_in : Verdict → Rule
rule_in Kept = rule.Life
rule_in (Host breach) = rule.Life
rule_in (Broken r) = r

-- of checks in turn, the one that fails names the rule
check : (fails : Bool) (own r : Rule) (rest : Verdict) (P : Rule → Type 0) → (if fails then Broken own else rest) ≡ Broken r → (fails ≡ true → P own) → (rest ≡ Broken r → P r) → P r
check true own r rest P h f g = subst P (ap rule_in h) (f refl)
check false own r rest P h f g = g h

both : (a b : Bool) → (a && b) ≡ true → (a ≡ true) × (b ≡ true)
both true b h = (refl, h)
both false b h = cc

told : (slot : Option ℕ) (k : ℕ) → is_other slot k ≡ true → is_some slot ≡ true
told None k h = cc
told (Some slot) k h = refl

told_phase : (phase : Option Bool) (wanted : Bool) → is_other_phase phase wanted ≡ true → is_some phase ≡ true
told_phase None wanted h = cc
told_phase (Some phase) wanted h = refl

told_head : (qsize fetched : ℕ) (command : Option Command) (head : Option ℕ) → is_other_head qsize command fetched head ≡ true → (is_some command && is_some head) ≡ true
told_head qsize fetched None head h = cc
told_head qsize fetched (Some command) None h = cc
told_head qsize fetched (Some command) (Some head) h = refl

-- ---- fetches
fetch_case : (s : FetchScene) (out : Bool) (r : Rule) (excused : Bool) (ring : Option Ring) → s.sq.excused ≡ excused → s.sq.ring ≡ ring → (if excused then Kept else fetch_rules s.tells s.sq ring s.slot out) ≡ Broken r → fetch_asks s r ≡ true
fetch_case s out r true ring he hr h = cc
fetch_case s out r false None he hr h = subst (λ k. fetch_asks s k ≡ true) (ap rule_in h) (rw he refl)
fetch_case s false r false (Some ring) he hr h =
    check (s.tells.tails && nat_le s.sq.submitted s.sq.fetched) rule.FetchBeyondTail r _ (λ k. fetch_asks s k ≡ true) h
    (λ f. rw (he, hr) (both _ _ f).0)
    (λ g. check (is_other s.slot (s.sq.fetched % slots_of ring.qsize)) rule.FetchSlot r Kept (λ k. fetch_asks s k ≡ true) g (λ f. rw (he, hr) (told s.slot _ f)) (λ k. cc))
fetch_case s true r false (Some ring) he hr h =
    check (s.tells.tails && nat_le s.sq.submitted s.sq.fetched) rule.FetchBeyondTail r _ (λ k. fetch_asks s k ≡ true) h
    (λ f. rw (he, hr) (both _ _ f).0)
    (λ g. check (is_other s.slot (s.sq.fetched % slots_of ring.qsize)) rule.FetchSlot r _ (λ k. fetch_asks s k ≡ true) g (λ f. rw (he, hr) (told s.slot _ f)) (λ k. cc))

-- ---- completions
slot_case : (s : PostScene) (r : Rule) (qsize : ℕ) (early : Bool) → s.cq.excused ≡ false → s.cq.qsize ≡ Some qsize → s.cq.early ≡ early → (if early then Kept else first_failed (slot_checks s.tells s.cq qsize s.slot s.completion.phase) Kept) ≡ Broken r → post_asks s r ≡ true
slot_case s r qsize true he hq hy h = cc
slot_case s r qsize false he hq hy h =
    check (is_other s.slot (s.cq.posted % slots_of qsize)) rule.Slot r _ (λ k. post_asks s k ≡ true) h
    (λ f. rw (he, hq, hy) (told s.slot _ f))
    (λ g. check (is_other_phase s.completion.phase (phase_of qsize s.cq.posted)) rule.Phase r _ (λ k. post_asks s k ≡ true) g
    (λ f. rw (he, hq, hy) (told_phase s.completion.phase _ f))
    (λ i. check (s.tells.heads && nat_le (s.cq.consumed + qsize) s.cq.posted) rule.CqFull r Kept (λ k. post_asks s k ≡ true) i (λ f. rw (he, hq, hy) (both _ _ f).0) (λ k. cc)))

place_case : (s : PostScene) (r : Rule) (qsize : Option ℕ) → s.cq.excused ≡ false → s.cq.qsize ≡ qsize → slot_rules s.tells s.cq qsize s.slot s.completion.phase ≡ Broken r → post_asks s r ≡ true
place_case s r None he hq h = closed (not s.tells.posts || nat_lt s.cq.answered s.cq.asked) h
  where
    closed : (b : Bool) → (if b then Kept else Broken rule.PostClosed) ≡ Broken r → post_asks s r ≡ true
    closed true k = cc
    closed false k = subst (λ k. post_asks s k ≡ true) (ap rule_in k) (rw he refl)
place_case s r (Some qsize) he hq h = slot_case s r qsize s.cq.early he hq refl h

and_true : (a b : Bool) → a ≡ true → b ≡ true → (a && b) ≡ true
and_true true b g h = h
and_true false b g h = cc

named_if : (a b : Bool) → (a || b) ≡ false → (not a && not b) ≡ true
named_if true b h = cc
named_if false true h = cc
named_if false false h = refl

name_case : (s : PostScene) (cqid : ℕ) (r : Rule) (ring : Option Ring) (deleted : Bool) → is_named s ≡ true → s.sq.ring ≡ ring → s.sq.deleted ≡ deleted → name_rules cqid s.sq ring s.command s.completion.sqhd ≡ Broken r → post_asks s r ≡ true
name_case s cqid r None true hn hr hd h = let own : rule.PostClosed ≡ r = ap rule_in (rw hd at h) in subst (λ k. post_asks s k ≡ true) own (both _ _ hn).0
name_case s cqid r None false hn hr hd h = let own : rule.Life ≡ r = ap rule_in (rw hd at h) in subst (λ k. post_asks s k ≡ true) own (and_true (is_named s) _ hn (rw (hr, hd) refl))
name_case s cqid r (Some ring) deleted hn hr hd h =
    let open_ring : (is_named s && is_some s.sq.ring) ≡ true = and_true (is_named s) _ hn (rw hr refl) in
    check (not (ring.cqid == cqid)) rule.CqWrong r _ (λ k. post_asks s k ≡ true) h
    (λ f. open_ring)
    (λ g. check (is_none s.command) rule.Life r _ (λ k. post_asks s k ≡ true) g
    (λ f. and_true (is_named s) _ hn (rw hr refl))
    (λ i. check (is_other_head ring.qsize s.command s.sq.fetched s.completion.sqhd) rule.Sqhd r Kept (λ k. post_asks s k ≡ true) i
    (λ f. let t = both _ _ (told_head ring.qsize s.sq.fetched s.command s.completion.sqhd f) in and_true _ _ (and_true _ _ open_ring t.0) t.1)
    (λ k. cc)))

-- ---- statuses
-- what is said of a status, unless nothing is
abbrev answered_unless : Bool → PostScene → Option Command → Verdict
answered_unless off s target =
    if off then Kept
    else if is_undoomed s.sq s.completion.status then Broken rule.SqdelUnasked
    else if is_unnamed s.command s.completion.status then Broken rule.AbortUnasked
    else if is_not_as_told s.command s.completion.status || is_untrue_abort s.tells s.own_sq target (mark_in s.command) s.completion (command_of s) then Broken rule.AbortUntrue
    else own_rules s.own_sq s.own_cq s.admin (mark_in s.command) s.completion (command_of s)

owed_case : (command : Option Command) (status : StatusCode) → is_not_as_told command status ≡ true → is_owed command ≡ true
owed_case None status h = cc
owed_case (Some command) status h = (both _ _ h).0

unnamed_case : (command : Option Command) (status : StatusCode) → is_unnamed command status ≡ true → (is_some command ≡ true) × (is_aborted status ≡ true)
unnamed_case None status h = cc
unnamed_case (Some command) status h = (refl, (both _ _ h).0)

foreign_case : (command : AdminCommand) (sc : ℕ) → not (has_specific command sc) ≡ true → has_statuses command ≡ true
foreign_case (DeleteSq qid) sc h = refl
foreign_case (CreateSq qid qsize prp1 cqid qprio pc) sc h = refl
foreign_case (DeleteCq qid) sc h = refl
foreign_case (CreateCq qid qsize prp1 pc) sc h = refl
foreign_case (Abort sqid cid) sc h = refl
foreign_case (SetFeatures fid sv cdw11) sc h = cc
foreign_case (GetFeatures fid) sc h = cc
foreign_case Other sc h = cc

or_first : (a b : Bool) → a ≡ true → (a || b) ≡ true
or_first true b h = refl
or_first false b h = cc

or_second : (a b : Bool) → b ≡ true → (a || b) ≡ true
or_second true b h = refl
or_second false b h = h

-- the statuses of a Create and of a Delete that something is asked of
create_sq_case : (ok one n settled y two a b c x : Bool) → (if ok then x else (if one then n && settled && y else two && a && b && c)) ≡ true → (ok || (one && n && settled) || (two && a && c)) ≡ true
create_sq_case true one n settled y two a b c x h = refl
create_sq_case false true n settled y two a b c x h = or_first _ _ (both (n && settled) y h).0
create_sq_case false false n settled y two a b c x h = let t = both (two && a && b) c h in and_true (two && a) c (both (two && a) b t.0).0 t.1

delete_cq_case : (ok one n y three settled z x : Bool) → (if ok then x else (if one then n && y else three && n && settled && z)) ≡ true → (ok || (one && n) || (three && n && settled)) ≡ true
delete_cq_case true one n y three settled z x h = refl
delete_cq_case false true n y three settled z x h = or_first _ _ (both n y h).0
delete_cq_case false false n y three settled z x h = (both (three && n && settled) z h).0

one_status : (ok p y x : Bool) → (if ok then x else (p && y)) ≡ true → (ok || p) ≡ true
one_status true p y x h = refl
one_status false p y x h = (both p y h).0

create_rule : (s : PostScene) (r : Rule) (command : AdminCommand) (fails : Bool) → is_named s ≡ true → command_of s ≡ command → broken_if (not s.admin.met && fails) (Broken rule.StatusCreate) ≡ Broken r
    → (fails ≡ true → create_asks s.own_cq s.admin (mark_in s.command) s.completion.status command ≡ true) → post_asks s r ≡ true
create_rule s r command fails hn hc h g =
    check (not s.admin.met && fails) rule.StatusCreate r Kept (λ k. post_asks s k ≡ true) h
    (λ f. let t = both (not s.admin.met) fails f in and_true _ _ (and_true (is_named s) _ hn t.0) (subst (λ c. create_asks s.own_cq s.admin (mark_in s.command) s.completion.status c ≡ true) (sym hc) (g t.1)))
    (λ k. cc)

delete_rule : (s : PostScene) (r : Rule) (command : AdminCommand) (fails : Bool) → is_named s ≡ true → command_of s ≡ command → broken_if (not s.admin.met && fails) (Broken rule.StatusDelete) ≡ Broken r
    → (fails ≡ true → delete_asks s.admin (mark_in s.command) s.completion.status command ≡ true) → post_asks s r ≡ true
delete_rule s r command fails hn hc h g =
    check (not s.admin.met && fails) rule.StatusDelete r Kept (λ k. post_asks s k ≡ true) h
    (λ f. let t = both (not s.admin.met) fails f in and_true _ _ (and_true (is_named s) _ hn t.0) (subst (λ c. delete_asks s.admin (mark_in s.command) s.completion.status c ≡ true) (sym hc) (g t.1)))
    (λ k. cc)

rules_case : (s : PostScene) (r : Rule) (command : AdminCommand) → is_named s ≡ true → command_of s ≡ command → status_rules s.own_sq s.own_cq s.admin (mark_in s.command) s.completion command ≡ Broken r → post_asks s r ≡ true
rules_case s r (DeleteSq qid) hn hc h =
    let st : StatusCode = s.completion.status in
    delete_rule s r _ _ hn hc h (one_status (is_success st) (is_specific st 0x01 && not (qid == 0)) (is_some s.own_sq.ring) _)
rules_case s r (CreateSq qid qsize prp1 cqid qprio pc) hn hc h =
    let st : StatusCode = s.completion.status in
    create_rule s r _ _ hn hc h
    (create_sq_case (is_success st) (is_specific st 0x00) (not (cqid == 0)) (is_settled s.own_cq.asked (mark_in s.command)) (is_some s.own_cq.qsize)
    (is_specific st 0x01) (is_sq_within s.admin.numbers qid) (is_none s.own_sq.ring) (is_cq_within s.admin.numbers cqid) _)
rules_case s r (DeleteCq qid) hn hc h =
    let st : StatusCode = s.completion.status in
    delete_rule s r _ _ hn hc h
    (delete_cq_case (is_success st) (is_specific st 0x01) (not (qid == 0)) (is_some s.own_cq.qsize) (is_specific st 0x0c) (is_settled s.admin.asked (mark_in s.command)) (not (is_attached s.own_cq)) _)
rules_case s r (CreateCq qid qsize prp1 pc) hn hc h =
    let st : StatusCode = s.completion.status in
    create_rule s r _ _ hn hc h (one_status (is_success st) (is_specific st 0x01 && is_cq_within s.admin.numbers qid) (is_none s.own_cq.qsize) _)
rules_case s r (Abort sqid cid) hn hc h = cc
rules_case s r (SetFeatures fid sv cdw11) hn hc h =
    check (is_untrue_of_features s.admin.numbers (mark_in s.command) fid s.completion.dw0 s.completion.status) rule.Features r Kept (λ k. post_asks s k ≡ true) h
    (λ f. let t = both _ _ (both _ _ f).0 in and_true _ _ (and_true (is_named s) _ hn (subst (λ c. sets_numbers c ≡ true) (sym hc) t.0)) t.1)
    (λ k. cc)
rules_case s r (GetFeatures fid) hn hc h = cc
rules_case s r Other hn hc h = cc

untrue_case : (a b owed says : Bool) → (a || b) ≡ true → (a ≡ true → owed ≡ true) → (b ≡ true → says ≡ true) → (owed || says) ≡ true
untrue_case true b owed says h f g = or_first owed says (f refl)
untrue_case false b owed says h f g = or_second owed says (g h)

says_case : (a n t j : Bool) → (a && n && t && j) ≡ true → (a && t && j) ≡ true
says_case a n t j h = let u = both (a && n && t) j h in let v = both (a && n) t u.0 in and_true (a && t) j (and_true a t (both a n v.0).0 v.1) u.1

status_case : (s : PostScene) (target : Option Command) (r : Rule) (off : Bool) → (s.cq.excused || (s.sq.excused || (not s.tells.posts && s.sq.deleted))) ≡ off → answered_unless off s target ≡ Broken r → post_asks s r ≡ true
status_case s target r true e h = cc
status_case s target r false e h =
    let hn : is_named s ≡ true = named_if s.cq.excused (s.sq.excused || (not s.tells.posts && s.sq.deleted)) e in
    check (is_undoomed s.sq s.completion.status) rule.SqdelUnasked r _ (λ k. post_asks s k ≡ true) h
    (λ f. and_true (is_named s) _ hn (both _ _ f).0)
    (λ g. check (is_unnamed s.command s.completion.status) rule.AbortUnasked r _ (λ k. post_asks s k ≡ true) g
    (λ f. let u = unnamed_case s.command s.completion.status f in and_true _ _ (and_true (is_named s) _ hn u.0) u.1)
    (λ i. check (is_not_as_told s.command s.completion.status || is_untrue_abort s.tells s.own_sq target (mark_in s.command) s.completion (command_of s)) rule.AbortUntrue r _ (λ k. post_asks s k ≡ true) i
    (λ f. and_true (is_named s) _ hn (untrue_case _ _ (is_owed s.command) (says_aborted_one s) f (owed_case s.command s.completion.status) (says_case (is_abort (command_of s)) (is_none target) (told_of s.own_sq.stirred (mark_in s.command) s.completion) (not (s.own_sq.excused || (not s.tells.posts && s.own_sq.deleted))))))
    (λ j. check (is_foreign (command_of s) s.completion.status) rule.StatusForeign r _ (λ k. post_asks s k ≡ true) j
    (λ f. let u = both _ _ f in and_true _ _ (and_true (is_named s) _ hn (foreign_case (command_of s) s.completion.status.sc u.1)) u.0)
    (rules_case s r (command_of s) hn refl))))

-- ---- any event
kept_case : (v w : Verdict) (r : Rule) (P : Type 0) → if_kept v w ≡ Broken r → (v ≡ Broken r → P) → (w ≡ Broken r → P) → P
kept_case Kept w r P h f g = g h
kept_case (Host breach) w r P h f g = cc
kept_case (Broken own) w r P h f g = f h

name_guard : (s : PostScene) (cqid : ℕ) (r : Rule) (off : Bool) → s.cq.excused ≡ false → (s.sq.excused || (not s.tells.posts && s.sq.deleted)) ≡ off → (if off then Kept else name_rules cqid s.sq s.sq.ring s.command s.completion.sqhd) ≡ Broken r → post_asks s r ≡ true
name_guard s cqid r true he e h = cc
name_guard s cqid r false he e h = name_case s cqid r s.sq.ring s.sq.deleted (and_true (not s.cq.excused) _ (ap not he) (ap not e)) refl refl h

post_case : (s : PostScene) (cqid : ℕ) (target : Option Command) (r : Rule) (excused : Bool) → s.cq.excused ≡ excused
    → if_kept (if excused then Kept else if_kept (slot_rules s.tells s.cq s.cq.qsize s.slot s.completion.phase) (name_verdict s.tells cqid s.sq s.command s.completion.sqhd)) (answered_unless (s.cq.excused || (s.sq.excused || (not s.tells.posts && s.sq.deleted))) s target) ≡ Broken r
    → post_asks s r ≡ true
post_case s cqid target r true he h = status_case s target r _ refl h
post_case s cqid target r false he h =
    kept_case _ _ r _ h
    (λ v. kept_case _ _ r _ v (place_case s r s.cq.qsize he refl) (name_guard s cqid r _ he refl))
    (status_case s target r _ refl)

host_only : (x y : Bool) (one two : Breach) (r : Rule) (P : Type 0) → (if x then Host one else (if y then Host two else Kept)) ≡ Broken r → P
host_only true y one two r P h = cc
host_only false true one two r P h = cc
host_only false false one two r P h = cc

tail_case : (excused : Bool) (qsize : Option ℕ) (submitted fetched slot : ℕ) (r : Rule) (P : Type 0) → (if excused then Kept else tail_rules qsize submitted fetched slot) ≡ Broken r → P
tail_case true qsize submitted fetched slot r P h = cc
tail_case false None submitted fetched slot r P h = cc
tail_case false (Some qsize) submitted fetched slot r P h = host_only (nat_lt qsize slot) (nat_lt (fetched + qsize) (advanced qsize submitted slot)) TailRange TailFull r P h

head_case : (excused : Bool) (qsize : Option ℕ) (early : Bool) (posted consumed slot : ℕ) (r : Rule) (P : Type 0) → (if excused then Kept else head_rules qsize early posted consumed slot) ≡ Broken r → P
head_case true qsize early posted consumed slot r P h = cc
head_case false None early posted consumed slot r P h = cc
head_case false (Some qsize) early posted consumed slot r P h = host_only (nat_lt qsize slot || (not early && nat_lt posted (advanced qsize consumed slot))) false HeadRange HeadRange r P h

ruled_is_asked : (start : Start) (past : Past) (event : Event) (r : Rule) → ruled start past event ≡ Broken r → scene_asks (scene_read start past event) r ≡ true
ruled_is_asked start past (Tail sq slot) r h =
    let q : Sq = sq_after start past sq in tail_case q.excused (qsize_in q.ring) q.submitted q.fetched slot r _ h
ruled_is_asked start past (Head cq slot) r h =
    let q : Cq = cq_after start past cq in head_case q.excused q.qsize q.early q.posted q.consumed slot r _ h
ruled_is_asked start past (Fetch sq slot cid command) r h =
    fetch_case (record { tells = start.tells; sq = sq_after start past sq; slot = slot }) (is_some (outstanding past sq cid)) r _ _ refl refl h
ruled_is_asked start past (Post cq slot completion) r h =
    let out : Option Command = outstanding past completion.sq completion.cid in
    let asked : AdminCommand = answered_in out completion in
    let s : PostScene = record {
      tells = start.tells;
      cq = cq_after start past cq;
      own_cq = cq_after start past (cq_named asked);
      sq = sq_after start past completion.sq;
      own_sq = sq_after start past (sq_named asked);
      admin = admin_after past;
      command = out;
      slot = slot;
      completion = completion;
    } in
    post_case s cq (outstanding past (sq_named asked) (cid_named asked)) r _ refl h

pub broken_is_asked : BrokenIsAsked
broken_is_asked start past event r h = go (is_lost past) h
  where
    go : (lost : Bool) → (if lost then Kept else ruled start past event) ≡ Broken r → scene_asks (if lost then Unjudged else scene_read start past event) r ≡ true
    go true k = cc
    go false k = ruled_is_asked start past event r k
