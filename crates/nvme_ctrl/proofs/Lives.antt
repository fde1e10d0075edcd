-- The queues whose state is kept: their regions by identifier, and their identifiers by region.
use Rattle.std.proofs.Common.{◌≡◌, ◌≢◌, ℕ, ◌<◌, ◌==◌, if◌then◌else◌, List, length, Option, Some, None, set, refl, sym, ap, ◌∙◌, subst, inl, inr}
use Rattle.std.specs.Prelude.{slice_set}
use Rattle.std.proofs.lemmas.Bool.{cases_eq, eq-eqb, ne_eqb}
use Rattle.std.proofs.lemmas.List.{get_or-set_same, get_or-set_other}
use Rattle.std.proofs.lemmas.Option.{same_Some}
use Rattle.nvme_ctrl.specs.declared.state.SqState.{SqState}
use Rattle.nvme_ctrl.specs.declared.state.CqState.{CqState}
use Rattle.nvme_ctrl_content.specs.Content.{SqContent, CqContent, put_sq, put_cq, put_life}
use Rattle.nvme_ctrl.specs.kept.Kept.{AreIds}
use Rattle.nvme_ctrl.specs.kept.State.{no_sq_state, no_cq_state, sq_at, cq_at}

-- one identifier has one region
pub one_life : (lives : ℕ → Option ℕ) (q r x : ℕ) → lives q ≡ Some r → lives q ≡ Some x → r ≡ x
one_life lives q r x a b = same_Some r x (sym a ∙ b)

-- and one region one identifier
pub one_id : (lives ids : ℕ → Option ℕ) → AreIds lives ids → (q p r : ℕ) → lives q ≡ Some r → lives p ≡ Some r → q ≡ p
one_id lives ids h q p r a b = same_Some q p (sym (h.ids_are q r a) ∙ h.ids_are p r b)

-- so other identifiers have other regions
pub lives_apart : (lives ids : ℕ → Option ℕ) → AreIds lives ids → (q p r x : ℕ) → lives q ≡ Some r → lives p ≡ Some x → q ≢ p → r ≢ x
lives_apart lives ids h q p r x a b other e = other (one_id lives ids h q p r a (subst (λ (n : ℕ). lives p ≡ Some n) (sym e) b))

-- ---- the state of one queue, and the content of its region, in the place of others
-- what is so of each queue and its region, where it is so of the one that is changed with its new state and content
pub put_sq-lives : {A : Type 0} (P : ℕ → ℕ → SqState → SqContent → A → Type 0) (lives ids : ℕ → Option ℕ) → AreIds lives ids
    → (sqs : List SqState) (sq : ℕ → SqContent) (more : ℕ → A) (q r : ℕ) (state : SqState) (s : SqContent) (a : A) → lives q ≡ Some r → q < length sqs
    → P q r state s a → ((p x : ℕ) → p ≢ q → x ≢ r → lives p ≡ Some x → P p x (sq_at sqs p) (sq x) (more x))
    → (p x : ℕ) → lives p ≡ Some x → P p x (sq_at (slice_set sqs q state) p) (put_sq sq r s x) (if x == r then a else more x)
put_sq-lives P lives ids h sqs sq more q r state s a life there here others p x is = elim (cases_eq p q) [
  | inl same ↦
      let region : x ≡ r = one_life lives q x r (subst (λ (n : ℕ). lives n ≡ Some x) same is) life in
      subst (λ (n : ℕ). P n x (sq_at (set sqs q state) n) (put_sq sq r s x) (if x == r then a else more x)) (sym same)
      (subst (λ (n : ℕ). P q n (sq_at (set sqs q state) q) (put_sq sq r s n) (if n == r then a else more n)) (sym region)
      (rw (get_or-set_same sqs q state no_sq_state there, eq-eqb r r refl) here))
  | inr differs ↦
      let apart : x ≢ r = lives_apart lives ids h p q x r is life differs in
      rw (get_or-set_other sqs q p state no_sq_state differs, ne_eqb x r apart) (others p x differs apart is)
]

-- the same of completion queues
pub put_cq-lives : {A : Type 0} (P : ℕ → ℕ → CqState → CqContent → A → Type 0) (lives ids : ℕ → Option ℕ) → AreIds lives ids
    → (cqs : List CqState) (cq : ℕ → CqContent) (more : ℕ → A) (q r : ℕ) (state : CqState) (s : CqContent) (a : A) → lives q ≡ Some r → q < length cqs
    → P q r state s a → ((p x : ℕ) → p ≢ q → x ≢ r → lives p ≡ Some x → P p x (cq_at cqs p) (cq x) (more x))
    → (p x : ℕ) → lives p ≡ Some x → P p x (cq_at (slice_set cqs q state) p) (put_cq cq r s x) (if x == r then a else more x)
put_cq-lives P lives ids h cqs cq more q r state s a life there here others p x is = elim (cases_eq p q) [
  | inl same ↦
      let region : x ≡ r = one_life lives q x r (subst (λ (n : ℕ). lives n ≡ Some x) same is) life in
      subst (λ (n : ℕ). P n x (cq_at (set cqs q state) n) (put_cq cq r s x) (if x == r then a else more x)) (sym same)
      (subst (λ (n : ℕ). P q n (cq_at (set cqs q state) q) (put_cq cq r s n) (if n == r then a else more n)) (sym region)
      (rw (get_or-set_same cqs q state no_cq_state there, eq-eqb r r refl) here))
  | inr differs ↦
      let apart : x ≢ r = lives_apart lives ids h p q x r is life differs in
      rw (get_or-set_other cqs q p state no_cq_state differs, ne_eqb x r apart) (others p x differs apart is)
]

-- the states alone: what is so of each queue that is kept
pub put_sq-states : (P : ℕ → SqState → Type 0) (sqs : List SqState) (q : ℕ) (state : SqState) → q < length sqs
    → P q state → (p : ℕ) → (p ≢ q → P p (sq_at sqs p)) → P p (sq_at (slice_set sqs q state) p)
put_sq-states P sqs q state there here p other = elim (cases_eq p q) [
  | inl same ↦ subst (λ (n : ℕ). P n (sq_at (set sqs q state) n)) (sym same) (subst (P q) (sym (get_or-set_same sqs q state no_sq_state there)) here)
  | inr differs ↦ subst (P p) (sym (get_or-set_other sqs q p state no_sq_state differs)) (other differs)
]

pub put_cq-states : (P : ℕ → CqState → Type 0) (cqs : List CqState) (q : ℕ) (state : CqState) → q < length cqs
    → P q state → (p : ℕ) → (p ≢ q → P p (cq_at cqs p)) → P p (cq_at (slice_set cqs q state) p)
put_cq-states P cqs q state there here p other = elim (cases_eq p q) [
  | inl same ↦ subst (λ (n : ℕ). P n (cq_at (set cqs q state) n)) (sym same) (subst (P q) (sym (get_or-set_same cqs q state no_cq_state there)) here)
  | inr differs ↦ subst (P p) (sym (get_or-set_other cqs q p state no_cq_state differs)) (other differs)
]

-- a queue that is opened has an identifier and a region that none had
pub ids_opened : (lives ids : ℕ → Option ℕ) (q r : ℕ) → AreIds lives ids → lives q ≡ None → ids r ≡ None → AreIds (put_life lives q (Some r)) (put_life ids r (Some q))
ids_opened lives ids q r h no_life no_id = record {
  ids_are = λ p x is. elim (cases_eq p q) [
    | inl same ↦
        let region : r ≡ x = same_Some r x (sym (ap (λ b. if b then Some r else lives p) (eq-eqb p q same)) ∙ is) in
        ap (λ b. if b then Some q else ids x) (eq-eqb x r (sym region)) ∙ ap Some (sym same)
    | inr differs ↦
        let was : lives p ≡ Some x = sym (ap (λ b. if b then Some r else lives p) (ne_eqb p q differs)) ∙ is in
        ap (λ b. if b then Some q else ids x) (ne_eqb x r (λ e. let id = subst (λ (n : ℕ). ids n ≡ Some p) e (h.ids_are p x was) in cc (id, no_id))) ∙ h.ids_are p x was
  ];
  lives_are = λ x p is. elim (cases_eq x r) [
    | inl same ↦
        let queue : q ≡ p = same_Some q p (sym (ap (λ b. if b then Some q else ids x) (eq-eqb x r same)) ∙ is) in
        ap (λ b. if b then Some r else lives p) (eq-eqb p q (sym queue)) ∙ ap Some (sym same)
    | inr differs ↦
        let was : ids x ≡ Some p = sym (ap (λ b. if b then Some q else ids x) (ne_eqb x r differs)) ∙ is in
        ap (λ b. if b then Some r else lives p) (ne_eqb p q (λ e. let life = subst (λ (n : ℕ). lives n ≡ Some x) e (h.lives_are x p was) in cc (life, no_life))) ∙ h.lives_are x p was
  ];
  admin = ap (λ b. if b then Some r else lives 0) (ne_eqb 0 q (λ e. let life = subst (λ (n : ℕ). lives n ≡ Some 0) e h.admin in cc (life, no_life))) ∙ h.admin;
}

-- one that is closed has none
pub ids_closed : (lives ids : ℕ → Option ℕ) (q r : ℕ) → AreIds lives ids → lives q ≡ Some r → q ≢ 0 → AreIds (put_life lives q None) (put_life ids r None)
ids_closed lives ids q r h life io = record {
  ids_are = λ p x is. elim (cases_eq p q) [
    | inl same ↦ absurd (let none = ap (λ b. if b then None else lives p) (eq-eqb p q same) in cc (none, is))
    | inr differs ↦
        let was : lives p ≡ Some x = sym (ap (λ b. if b then None else lives p) (ne_eqb p q differs)) ∙ is in
        ap (λ b. if b then None else ids x) (ne_eqb x r (lives_apart lives ids h p q x r was life differs)) ∙ h.ids_are p x was
  ];
  lives_are = λ x p is. elim (cases_eq x r) [
    | inl same ↦ absurd (let none = ap (λ b. if b then None else ids x) (eq-eqb x r same) in cc (none, is))
    | inr differs ↦
        let was : ids x ≡ Some p = sym (ap (λ b. if b then None else ids x) (ne_eqb x r differs)) ∙ is in
        let there : lives p ≡ Some x = h.lives_are x p was in
        ap (λ b. if b then None else lives p) (ne_eqb p q (λ e. differs (one_life lives q x r (subst (λ (n : ℕ). lives n ≡ Some x) e there) life))) ∙ there
  ];
  admin = ap (λ b. if b then None else lives 0) (ne_eqb 0 q (λ e. io (sym e))) ∙ h.admin;
}
