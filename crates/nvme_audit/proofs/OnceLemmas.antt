-- Each fetched command of a log without faults is answered once.
use Rattle.std.proofs.Common.{◌≡◌, ℕ, ◌+◌, ◌%◌, ◌==◌, ◌&&◌, ◌||◌, not, nat_le, Bool, true, false, if◌then◌else◌, [], ◌∷◌, Option, None, Some, is_some, refl, sym, subst, ap, ◌∙◌, arith}
use Rattle.std.proofs.lemmas.Bool.{eqb-true}
use Rattle.nvme_entry.specs.declared.admin.AdminCommand.{AdminCommand}
use Rattle.nvme_audit.specs.declared.event.Event.{Event}
use Rattle.nvme_audit.specs.declared.event.Event.TheVariants.{Tail, Head, Fetch, Post}
use Rattle.nvme_audit.specs.declared.event.Completion.{Completion}
use Rattle.nvme_audit.specs.declared.facts.Start.{Start}
use Rattle.nvme_audit.specs.declared.facts.Tells.{Tells}
use Rattle.nvme_audit.specs.declared.facts.Ring.{Ring}
use Rattle.nvme_audit.specs.declared.facts.Sq.{Sq}
use Rattle.nvme_audit.specs.declared.facts.Command.{Command}
use Rattle.nvme_audit.specs.declared.verdict.Verdict.{Verdict}
use Rattle.nvme_audit.specs.declared.verdict.Verdict.TheVariants.{Kept, Host, Broken}
use Rattle.nvme_audit.specs.declared.verdict.Breach.{Breach}
use Rattle.nvme_audit.specs.declared.verdict.Breach.TheVariants.{CidReused}
use Rattle.nvme_audit.specs.declared.verdict.Rule.{Rule}
use Rattle.nvme_audit.specs.declared.verdict.Rule.TheVariants.{FetchBeyondTail, FetchSlot}
use Rattle.nvme_audit.specs.Lives.{Past, asked, turns_sq, done}
use Rattle.nvme_audit.specs.Rings.{slots_of, number_of}
use Rattle.nvme_audit.specs.Aborts.{was_named}
use Rattle.nvme_audit.specs.Marks.{mark_of, owes}
use Rattle.nvme_audit.specs.Host.{is_kept, is_lost, is_sq_excused, is_cq_excused, tail_verdict, head_verdict}
use Rattle.nvme_audit.specs.Facts.{sq_after, cq_after, outstanding}
use Rattle.nvme_audit.specs.Rules.{is_other, fetch_rules, fetch_verdict, name_rules, name_verdict, if_kept, post_verdict}
use Rattle.nvme_audit.specs.Lawful.{ruled, verdict, IsFaultlessLog}
use Rattle.nvme_audit.specs.Laws.{one_if, AnsweredOnce}
use Rattle.nvme_audit.proofs.StepLemmas.{same_out}

both : (a b : Bool) → (a && b) ≡ true → (a ≡ true) × (b ≡ true)
both true b h = (refl, h)
both false b h = cc

-- ---- no queue is excused
told_case : (own excused : Bool) (v : Verdict) → excused ≡ false → (own ≡ true → (if excused then Kept else v) ≡ Kept) → ((own && not (is_kept v)) || excused) ≡ false
told_case own true v e h = cc
told_case false false v e h = refl
told_case true false Kept e h = refl
told_case true false (Host breach) e h = let k : Host breach ≡ Kept = h refl in cc
told_case true false (Broken rule) e h = let k : Broken rule ≡ Kept = h refl in cc

checks_free : (a b out : Bool) (r s : Rule) (t : Breach) → (if a then Broken r else (if b then Broken s else (if out then Host t else Kept))) ≡ Kept → out ≡ false
checks_free true b out r s t h = cc
checks_free false true out r s t h = cc
checks_free false false true r s t h = cc
checks_free false false false r s t h = refl

pub rules_free : (tells : Tells) (sq : Sq) (ring : Option Ring) (slot : Option ℕ) (out : Bool) → fetch_rules tells sq ring slot out ≡ Kept → out ≡ false
rules_free tells sq None slot out h = cc
rules_free tells sq (Some ring) slot out h = checks_free (tells.tails && nat_le sq.submitted sq.fetched) (is_other slot (sq.fetched % slots_of ring.qsize)) out FetchBeyondTail FetchSlot CidReused h

not_excused : (excused : Bool) (v : Verdict) → excused ≡ false → (if excused then Kept else v) ≡ Kept → v ≡ Kept
not_excused true v e h = cc
not_excused false v e h = h

-- a fetch finds its identifier free
fetch_free : (start : Start) (past : Past) (sq cid : ℕ) (slot : Option ℕ) → is_sq_excused start past sq ≡ false → fetch_verdict start.tells (sq_after start past sq) slot (is_some (outstanding past sq cid)) ≡ Kept → is_some (asked past sq cid) ≡ false
fetch_free start past sq cid slot e h =
    sym (same_out (asked past sq cid) (number_of past sq cid) (mark_of past sq cid) (was_named past sq cid) (owes past sq cid)) ∙ rules_free start.tells (sq_after start past sq) _ slot _ (not_excused _ _ e h)

or_false : (a b : Bool) → a ≡ false → b ≡ false → (a || b) ≡ false
or_false true b g h = cc
or_false false b g h = h

and_false : (a b : Bool) → (a ≡ true → b ≡ false) → (a && b) ≡ false
and_false true b h = h refl
and_false false b h = refl

-- nor are the queues lost
record IsJudged (start : Start) (past : Past) : Type 0 where
  pub lost : is_lost past ≡ false
  pub sqs : (q : ℕ) → is_sq_excused start past q ≡ false
  pub cqs : (q : ℕ) → is_cq_excused start past q ≡ false

all_judged : (start : Start) (past : Past) → IsFaultlessLog start past → IsJudged start past
all_judged start [] h = record { lost = refl; sqs = λ q. refl; cqs = λ q. refl }
all_judged start (Tail sq slot ∷ past) h =
    let j = all_judged start past h.1 in
    let r : tail_verdict (sq_after start past sq) slot ≡ Kept = not_excused (is_lost past) _ j.lost h.0 in
    record { lost = j.lost; sqs = λ q. told_case (sq == q) _ _ (j.sqs q) (λ e. subst (λ (k : ℕ). tail_verdict (sq_after start past k) slot ≡ Kept) (eqb-true sq q e) r); cqs = j.cqs }
all_judged start (Head cq slot ∷ past) h =
    let j = all_judged start past h.1 in
    let r : head_verdict (cq_after start past cq) slot ≡ Kept = not_excused (is_lost past) _ j.lost h.0 in
    record { lost = j.lost; sqs = j.sqs; cqs = λ q. told_case (cq == q) _ _ (j.cqs q) (λ e. subst (λ (k : ℕ). head_verdict (cq_after start past k) slot ≡ Kept) (eqb-true cq q e) r) }
all_judged start (Fetch sq slot cid command ∷ past) h =
    let j = all_judged start past h.1 in
    let free : is_some (asked past sq cid) ≡ false = fetch_free start past sq cid slot (j.sqs sq) (not_excused (is_lost past) _ j.lost h.0) in
    record {
      lost = or_false _ _ (and_false (sq == 0) _ (λ e. free)) j.lost;
      sqs = λ q. and_false _ _ (λ lives. or_false _ _ (and_false (sq == q) _ (λ e. subst (λ (k : ℕ). is_some (asked past k cid) ≡ false) (eqb-true sq q e) free)) (j.sqs q));
      cqs = λ q. and_false _ _ (λ lives. j.cqs q);
    }
all_judged start (Post cq slot completion ∷ past) h = let j = all_judged start past h.1 in record { lost = j.lost; sqs = j.sqs; cqs = j.cqs }

pub none_excused : (start : Start) (past : Past) → IsFaultlessLog start past → (q : ℕ) → (is_sq_excused start past q ≡ false) × (is_cq_excused start past q ≡ false)
none_excused start past h q = let j = all_judged start past h in (j.sqs q, j.cqs q)

-- what is said is what the rules say
pub is_ruled : (start : Start) (past : Past) (event : Event) → IsFaultlessLog start past → verdict start past event ≡ Kept → ruled start past event ≡ Kept
is_ruled start past event log h = not_excused (is_lost past) _ (all_judged start past log).lost h

-- ---- a completion answers an outstanding command
both_kept : (first other : Verdict) → if_kept first other ≡ Kept → other ≡ Kept
both_kept Kept other h = h
both_kept (Host breach) other h = cc
both_kept (Broken rule) other h = cc

first_kept : (first other : Verdict) → if_kept first other ≡ Kept → first ≡ Kept
first_kept Kept other h = refl
first_kept (Host breach) other h = cc
first_kept (Broken rule) other h = cc

named_none : (a : Bool) (r s : Rule) → (if a then Broken r else Broken s) ≡ Kept → true ≡ false
named_none true r s h = cc
named_none false r s h = cc

not_posts : (b : Bool) → b ≡ true → not b ≡ true → true ≡ false
not_posts true g h = cc
not_posts false g h = cc

rules_named : (cqid : ℕ) (sq : Sq) (ring : Option Ring) (out : Option Command) (head : Option ℕ) → name_rules cqid sq ring out head ≡ Kept → is_some out ≡ true
rules_named cqid sq None out head h = cc
rules_named cqid sq (Some ring) None head h = let k : true ≡ false = named_none (not (ring.cqid == cqid)) _ _ h in cc
rules_named cqid sq (Some ring) (Some command) head h = refl

verdict_named : (tells : Tells) (cqid : ℕ) (sq : Sq) (out : Option Command) (head : Option ℕ) → tells.posts ≡ true → sq.excused ≡ false → name_verdict tells cqid sq out head ≡ Kept → is_some out ≡ true
verdict_named tells cqid sq out head posts e h = rules_named cqid sq sq.ring out head (not_excused _ _ (or_false _ _ e (and_false _ _ (λ n. let k : true ≡ false = not_posts tells.posts posts n in cc))) h)

answers : (start : Start) (past : Past) (cq : ℕ) (slot : Option ℕ) (completion : Completion) → start.tells.posts ≡ true → IsFaultlessLog start past
    → post_verdict start.tells cq (cq_after start past cq) (sq_after start past completion.sq) (outstanding past completion.sq completion.cid) slot completion ≡ Kept → is_some (asked past completion.sq completion.cid) ≡ true
answers start past cq slot completion posts log h =
    sym (same_out (asked past completion.sq completion.cid) (number_of past completion.sq completion.cid) (mark_of past completion.sq completion.cid) (was_named past completion.sq completion.cid) (owes past completion.sq completion.cid))
    ∙ verdict_named start.tells cq (sq_after start past completion.sq) _ _ posts (none_excused start past log completion.sq).0 (both_kept _ _ (not_excused _ _ (none_excused start past log cq).1 h))

-- ---- counts
fetch_case : (own : Bool) (out : Option AdminCommand) (command : AdminCommand) (f a : ℕ) → (own ≡ true → is_some out ≡ false) → f ≡ a + one_if (is_some out) → (if own then f + 1 else f) ≡ a + one_if (is_some (if own then Some command else out))
fetch_case true out command f a free h = let same : f ≡ a + 0 = h ∙ ap (λ (o : Bool). a + one_if o) (free refl) in omega arith
fetch_case false out command f a free h = h

post_case : (turned named : Bool) (out : Option AdminCommand) (f a : ℕ) → (named ≡ true → is_some out ≡ true) → f ≡ a + one_if (is_some out)
    → (if turned then 0 else f) ≡ (if turned then 0 else (if named then a + 1 else a)) + one_if (is_some (if turned then None else (if named then None else out)))
post_case true named out f a held h = refl
post_case false true out f a held h = let same : f ≡ a + 1 = h ∙ ap (λ (o : Bool). a + one_if o) (held refl) in omega arith
post_case false false out f a held h = h

pub once : AnsweredOnce
once start [] posts h q c = refl
once start (Tail sq slot ∷ past) posts h q c = once start past posts h.1 q c
once start (Head cq slot ∷ past) posts h q c = once start past posts h.1 q c
once start (Fetch sq slot cid command ∷ past) posts h q c =
    fetch_case _ (asked past q c) command _ _
    (λ e. let own : ((sq == q) ≡ true) × ((cid == c) ≡ true) = both (sq == q) (cid == c) e in
    subst (λ (k : ℕ). is_some (asked past q k) ≡ false) (eqb-true cid c own.1) (subst (λ (k : ℕ). is_some (asked past k cid) ≡ false) (eqb-true sq q own.0) (fetch_free start past sq cid slot (none_excused start past h.1 sq).0 (is_ruled start past (Fetch sq slot cid command) h.1 h.0))))
    (once start past posts h.1 q c)
once start (Post cq slot completion ∷ past) posts h q c =
    post_case (turns_sq (done past completion) q) _ (asked past q c) _ _
    (λ e. let own : ((completion.sq == q) ≡ true) × ((completion.cid == c) ≡ true) = both (completion.sq == q) (completion.cid == c) e in
    subst (λ (k : ℕ). is_some (asked past q k) ≡ true) (eqb-true completion.cid c own.1) (subst (λ (k : ℕ). is_some (asked past k completion.cid) ≡ true) (eqb-true completion.sq q own.0) (answers start past cq slot completion posts h.1 (first_kept _ _ (is_ruled start past (Post cq slot completion) h.1 h.0)))))
    (once start past posts h.1 q c)
