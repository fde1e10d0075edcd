-- What each answer of a run means.
use Rattle.std.proofs.Common.{◌≡◌, ℕ, ◌⊎◌, inl, inr, refl, sym, ap, ◌∙◌, subst, List, Option, Result, Ok, Err, IsErrOf}
use Rattle.std.specs.Io.KnownBytes.{Appends}
use Rattle.nvme_lane.specs.Limits.{IsOutside}
use Rattle.nvme_pool.specs.Limits.{max_workers}
use Rattle.nvme_workload.specs.declared.error.WorkloadError.{WorkloadError}
use Rattle.nvme_workload.specs.declared.error.WorkloadError.TheVariants as why
use Rattle.nvme_workload.specs.Plan.{Plan, workload_of}
use Rattle.nvme_front.specs.declared.front.FrontError.{FrontError}
use Rattle.nvme_front.specs.declared.front.FrontError.TheVariants as front
use Rattle.nvme_front.specs.declared.settled.Settled.{Settled}
use Rattle.nvme_lane.specs.declared.mode.Mode.{Mode}
use Rattle.nvme_lane.specs.declared.mode.Mode.TheVariants.{Loaded}
use Rattle.nvme_report.specs.Report.{report_text}
use Rattle.nvme_output.specs.Written.{AppendsPrefix}
use Rattle.nvme_runs.specs.declared.runs.RunError.{RunError}
use Rattle.nvme_runs.specs.declared.runs.RunError.TheVariants as fault
use Rattle.nvme_runs.specs.Runs.{FitsAll, IsRun, IsFirstTooLong}
use Rattle.nvme_runs.specs.RunFaults.{IsLateFault, IsTextFault, IsTooLong, RunFails}
use Rattle.nvme_runs.specs.RunMeans.{RunMeans}
use Rattle.nvme_runs.proofs.TooLong.{none_longer, one_first}

-- a text has one workload
pub one_plan : (text : List ℕ) (p q : Plan) → workload_of text ≡ Ok p → workload_of text ≡ Ok q → p ≡ q
one_plan text p q first second = let e = sym first ∙ second in cc

-- a text with a workload has no fault
no_fault : (text : List ℕ) (p : Plan) (w : WorkloadError) → workload_of text ≡ Ok p → workload_of text ≡ Err w → ⊥
no_fault text p w first second = let e = sym first ∙ second in cc

-- a fault of the text is that which is told
text_workload : (text : List ℕ) (mode : Mode) (e : RunError) (w : WorkloadError) → IsTextFault text mode e → e ≡ fault.Workload w → workload_of text ≡ Err w
text_workload text mode e why.NotUtf8 h is = subst (λ (x : RunError). IsTextFault text mode x) is h
text_workload text mode e why.NotToml h is = subst (λ (x : RunError). IsTextFault text mode x) is h
text_workload text mode e (why.Missing k) h is = subst (λ (x : RunError). IsTextFault text mode x) is h
text_workload text mode e (why.Bad k) h is = subst (λ (x : RunError). IsTextFault text mode x) is h
text_workload text mode e why.Unknown h is = subst (λ (x : RunError). IsTextFault text mode x) is h
text_workload text mode e why.Limit h is = subst (λ (x : RunError). IsTextFault text mode x) is h
text_workload text mode e why.Repeated h is = subst (λ (x : RunError). IsTextFault text mode x) is h
text_workload text mode e why.NoMemory h is = absurd (subst (λ (x : RunError). IsTextFault text mode x) is h)

-- a text that has a fault tells it, or `NoMemory`
text_faulty : {T : Type 0} (text : List ℕ) (mode : Mode) (e : RunError) (w : WorkloadError) → IsTextFault text mode e → workload_of text ≡ Err w
    → IsErrOf {T = T} (Err e) (fault.Workload w) ⊎ IsErrOf {T = T} (Err e) fault.NoMemory
text_faulty text mode fault.NoMemory w h is = inr refl
text_faulty text mode (fault.Workload v) w h is =
    let told = text_workload text mode (fault.Workload v) v h refl in
    let same : v ≡ w = let e = sym told ∙ is in cc in
    inl (ap (λ (x : WorkloadError). Err (fault.Workload x)) same)
text_faulty text mode (fault.TooLong r) w h is = absurd (no_fault text h.plan w h.is_workload is)
text_faulty text mode e w h is = absurd h

-- a text with a script that is too long tells it, or `NoMemory`
text_longer : {T : Type 0} (text : List ℕ) (mode : Mode) (e : RunError) (r : ℕ) → IsTextFault text mode e → IsTooLong text mode r
    → IsErrOf {T = T} (Err e) (fault.TooLong r) ⊎ IsErrOf {T = T} (Err e) fault.NoMemory
text_longer text mode fault.NoMemory r h long = inr refl
text_longer text mode (fault.Workload v) r h long = absurd (no_fault text long.plan v long.is_workload (text_workload text mode (fault.Workload v) v h refl))
text_longer text mode (fault.TooLong q) r h long =
    let same = one_plan text h.plan long.plan h.is_workload long.is_workload in
    inl (ap (λ k. Err (fault.TooLong k)) (one_first long.plan.submissions q r (subst (λ (p : Plan). IsFirstTooLong p.submissions q) same h.first) long.first))
text_longer text mode e r h long = absurd h

-- the errors of a text are no others
text_is : (text : List ℕ) (mode : Mode) (e f : RunError) → IsTextFault text mode e → e ≡ f → IsTextFault text mode f
text_is text mode e f h is = subst (λ (x : RunError). IsTextFault text mode x) is h

late_is : (plan : Plan) (e f : RunError) → IsLateFault plan e → e ≡ f → IsLateFault plan f
late_is plan e f h is = subst (λ (x : RunError). IsLateFault plan x) is h

-- an error is what it is told as
err_is : {T : Type 0} (e f : RunError) → IsErrOf {T = T} (Err e) f → e ≡ f
err_is e f h = cc

-- a fault of the front is told with its cause
late_front : (text : List ℕ) (plan : Plan) (e : FrontError) → workload_of text ≡ Ok plan → IsLateFault plan (fault.Front e) → RunFails text e
late_front text plan front.NoMemory is h = absurd h
late_front text plan front.LogFull is h = record { plan = plan; is_workload = is; not_memory = λ e. cc e; fails = h }
late_front text plan (front.Stray t) is h = record { plan = plan; is_workload = is; not_memory = λ e. cc e; fails = h }

module _ {T W : Type 0} (settled_in : T → Settled) (bytes_of : W → Option (List ℕ)) (text : List ℕ) (mode : Mode) (workers : ℕ) (w : W) where
  -- a wrong number of workers
  pub of_workers : IsOutside workers 1 max_workers → RunMeans (Err fault.Workers) settled_in w w bytes_of text mode workers
  of_workers outside = record {
    account = tt;
    written = tt;
    untouched = λ _. refl;
    write_failed = λ e. cc e;
    workers_are = (λ _. outside, λ _. refl);
    workload = λ v e. cc e;
    never_memory = λ e. cc e;
    faulty = λ v inside is. absurd (inside outside);
    too_long = λ r e. cc e;
    longer = λ r inside long. absurd (inside outside);
    front = λ e is. cc is;
  }

  -- `NoMemory`
  pub of_memory : (IsOutside workers 1 max_workers → ⊥) → RunMeans (Err fault.NoMemory) settled_in w w bytes_of text mode workers
  of_memory inside = record {
    account = tt;
    written = tt;
    untouched = λ _. refl;
    write_failed = λ e. cc e;
    workers_are = (λ e. cc e, λ outside. absurd (inside outside));
    workload = λ v e. cc e;
    never_memory = λ e. cc e;
    faulty = λ v _ is. inr refl;
    too_long = λ r e. cc e;
    longer = λ r _ long. inr refl;
    front = λ e is. cc is;
  }

  -- a fault of the text
  pub of_text : (result : Result T RunError) (e : RunError) → result ≡ Err e → (IsOutside workers 1 max_workers → ⊥) → IsTextFault text mode e
      → RunMeans result settled_in w w bytes_of text mode workers
  of_text result e passed inside h = subst (λ (x : Result T RunError). RunMeans x settled_in w w bytes_of text mode workers) (sym passed) (record {
    account = tt;
    written = tt;
    untouched = λ _. refl;
    write_failed = λ is. absurd (text_is text mode e fault.Write h is);
    workers_are = (λ is. absurd (text_is text mode e fault.Workers h (err_is {T = T} e fault.Workers is)), λ outside. absurd (inside outside));
    workload = λ v is. text_workload text mode e v h (err_is {T = T} e (fault.Workload v) is);
    never_memory = λ is. text_is text mode e (fault.Workload why.NoMemory) h (err_is {T = T} e (fault.Workload why.NoMemory) is);
    faulty = λ v _ is. text_faulty {T = T} text mode e v h is;
    too_long = λ r is. text_is text mode e (fault.TooLong r) h (err_is {T = T} e (fault.TooLong r) is);
    longer = λ r _ long. text_longer {T = T} text mode e r h long;
    front = λ f is. absurd (text_is text mode e (fault.Front f) h (err_is {T = T} e (fault.Front f) is));
  })

  -- a fault of a run of a workload whose scripts fit
  pub of_late : (result : Result T RunError) (e : RunError) (plan : Plan) → result ≡ Err e → (IsOutside workers 1 max_workers → ⊥) → workload_of text ≡ Ok plan → (mode ≡ Loaded → FitsAll plan.submissions) → IsLateFault plan e
      → RunMeans result settled_in w w bytes_of text mode workers
  of_late result e plan passed inside read fit h = subst (λ (x : Result T RunError). RunMeans x settled_in w w bytes_of text mode workers) (sym passed) (record {
    account = tt;
    written = tt;
    untouched = λ _. refl;
    write_failed = λ is. absurd (late_is plan e fault.Write h is);
    workers_are = (λ is. absurd (late_is plan e fault.Workers h (err_is {T = T} e fault.Workers is)), λ outside. absurd (inside outside));
    workload = λ v is. absurd (late_is plan e (fault.Workload v) h (err_is {T = T} e (fault.Workload v) is));
    never_memory = λ is. late_is plan e (fault.Workload why.NoMemory) h (err_is {T = T} e (fault.Workload why.NoMemory) is);
    faulty = λ v _ is. absurd (no_fault text plan v read is);
    too_long = λ r is. absurd (late_is plan e (fault.TooLong r) h (err_is {T = T} e (fault.TooLong r) is));
    longer = λ r _ long. absurd (none_longer text plan long.plan r read (fit long.is_loaded) long.is_workload long.first);
    front = λ f is. late_front text plan f read (late_is plan e (fault.Front f) h (err_is {T = T} e (fault.Front f) is));
  })

  -- a run whose report was written, to a writer that was w
  pub of_ok : (now : W) (r : T) (plan : Plan) → (IsOutside workers 1 max_workers → ⊥) → workload_of text ≡ Ok plan → (mode ≡ Loaded → FitsAll plan.submissions)
      → IsRun text mode (settled_in r) → Appends (bytes_of w) (bytes_of now) (report_text mode (settled_in r)) → RunMeans (Ok r) settled_in w now bytes_of text mode workers
  of_ok now r plan inside read fit ran appends = record {
    account = ran;
    written = appends;
    untouched = tt;
    write_failed = tt;
    workers_are = (λ e. cc e, λ outside. absurd (inside outside));
    workload = λ v e. cc e;
    never_memory = λ e. cc e;
    faulty = λ v _ is. absurd (no_fault text plan v read is);
    too_long = λ q e. cc e;
    longer = λ q _ long. absurd (none_longer text plan long.plan q read (fit long.is_loaded) long.is_workload long.first);
    front = λ f e. cc e;
  }

  -- a run whose report wasn't written whole
  pub of_write : (now : W) (s : Settled) (plan : Plan) → (IsOutside workers 1 max_workers → ⊥) → workload_of text ≡ Ok plan → (mode ≡ Loaded → FitsAll plan.submissions)
      → IsRun text mode s → AppendsPrefix (bytes_of w) (bytes_of now) (report_text mode s) → RunMeans (Err fault.Write) settled_in w now bytes_of text mode workers
  of_write now s plan inside read fit ran appends = record {
    account = tt;
    written = tt;
    untouched = λ other. absurd (other refl);
    write_failed = λ _. (s, ran, appends);
    workers_are = (λ e. cc e, λ outside. absurd (inside outside));
    workload = λ v e. cc e;
    never_memory = λ e. cc e;
    faulty = λ v _ is. absurd (no_fault text plan v read is);
    too_long = λ q e. cc e;
    longer = λ q _ long. absurd (none_longer text plan long.plan q read (fit long.is_loaded) long.is_workload long.first);
    front = λ f e. cc e;
  }

-- ---- a run without gates answers what that with gates does
-- one of two errors is one of the two
either : {T U : Type 0} (e f : RunError) → IsErrOf {T = T} (Err e) f ⊎ IsErrOf {T = T} (Err e) fault.NoMemory → IsErrOf {T = U} (Err e) f ⊎ IsErrOf {T = U} (Err e) fault.NoMemory
either {T} {U} e f (inl h) = inl (ap (λ (x : RunError). Err x) (err_is {T = T} e f h))
either {T} {U} e f (inr h) = inr (ap (λ (x : RunError). Err x) (err_is {T = T} e fault.NoMemory h))

-- an answer is no error
none_of : {T : Type 0} (t : T) (f : RunError) → IsErrOf (Ok t) f ⊎ IsErrOf (Ok t) fault.NoMemory → ⊥
none_of t f (inl h) = cc h
none_of t f (inr h) = cc h

module _ {T U W : Type 0} (settled_in : T → Settled) (settled_of : U → Settled) (bytes_of : W → Option (List ℕ)) (text : List ℕ) (mode : Mode) (workers : ℕ) (old new : W) where
  -- an error
  same_err : (e : RunError) → RunMeans (Err e) settled_in old new bytes_of text mode workers → RunMeans (Err e) settled_of old new bytes_of text mode workers
  same_err e h = record {
    account = tt;
    written = tt;
    untouched = h.untouched;
    write_failed = h.write_failed;
    workers_are = (λ is. h.workers_are.0 (ap (λ (x : RunError). Err x) (err_is {T = U} e fault.Workers is)), λ outside. ap (λ (x : RunError). Err x) (err_is {T = T} e fault.Workers (h.workers_are.1 outside)));
    workload = λ v is. h.workload v (ap (λ (x : RunError). Err x) (err_is {T = U} e (fault.Workload v) is));
    never_memory = λ is. h.never_memory (ap (λ (x : RunError). Err x) (err_is {T = U} e (fault.Workload why.NoMemory) is));
    faulty = λ v inside is. either {T = T} {U = U} e (fault.Workload v) (h.faulty v inside is);
    too_long = λ r is. h.too_long r (ap (λ (x : RunError). Err x) (err_is {T = U} e (fault.TooLong r) is));
    longer = λ r inside long. either {T = T} {U = U} e (fault.TooLong r) (h.longer r inside long);
    front = λ f is. h.front f (ap (λ (x : RunError). Err x) (err_is {T = U} e (fault.Front f) is));
  }

  -- what was settled
  same_ok : (t : T) (u : U) → settled_in t ≡ settled_of u → RunMeans (Ok t) settled_in old new bytes_of text mode workers
      → RunMeans (Ok u) settled_of old new bytes_of text mode workers
  same_ok t u same h = record {
    account = subst (λ (s : Settled). IsRun text mode s) same h.account;
    written = subst (λ (s : Settled). Appends (bytes_of old) (bytes_of new) (report_text mode s)) same h.written;
    untouched = tt;
    write_failed = tt;
    workers_are = (λ e. cc e, λ outside. cc (h.workers_are.1 outside));
    workload = λ v e. cc e;
    never_memory = λ e. cc e;
    faulty = λ v inside is. absurd (none_of t (fault.Workload v) (h.faulty v inside is));
    too_long = λ q e. cc e;
    longer = λ q inside long. absurd (none_of t (fault.TooLong q) (h.longer q inside long));
    front = λ f e. cc e;
  }

  -- an error that is passed on, where the gates are as many as the workers
  pub passes_err : (result : Result U RunError) (e : RunError) (n : ℕ) → result ≡ Err e → n ≡ workers → RunMeans (Err e) settled_in old new bytes_of text mode n
      → RunMeans result settled_of old new bytes_of text mode workers
  passes_err result e n passed count h =
      subst (λ (x : Result U RunError). RunMeans x settled_of old new bytes_of text mode workers) (sym passed)
      (same_err e (subst (λ (k : ℕ). RunMeans (Err e) settled_in old new bytes_of text mode k) count h))

  -- what was settled, where the gates are as many as the workers
  pub passes_ok : (t : T) (u : U) (n : ℕ) → settled_in t ≡ settled_of u → n ≡ workers → RunMeans (Ok t) settled_in old new bytes_of text mode n
      → RunMeans (Ok u) settled_of old new bytes_of text mode workers
  passes_ok t u n same count h = same_ok t u same (subst (λ (k : ℕ). RunMeans (Ok t) settled_in old new bytes_of text mode k) count h)
