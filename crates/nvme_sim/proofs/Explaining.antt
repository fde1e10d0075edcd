-- What holds of an answer holds of it with its fault explained.
use Rattle.std.proofs.Common.{◌≡◌, ◌⊎◌, ◌∙◌, Result, Ok, Err, inl, inr, sym, ap}
use Rattle.std.specs.Prelude.{IfErr, IfOk, OnOk}
use Rattle.nvme_runs.specs.declared.runs.RunError.TheVariants as run
use Rattle.nvme_sim.specs.Statuses.{status_of}
use Rattle.nvme_sim.specs.declared.faults.Fault.{Fault}
use Rattle.nvme_sim.specs.declared.faults.Fault.TheVariants as fault
use Rattle.nvme_sim.specs.inside.Explained.{IsExplained}

pub answer_stays : {T : Type 0} (was is : Result T Fault) (x : T) → IsExplained was is → is ≡ Ok x → was ≡ Ok x
answer_stays (Ok a) (Ok b) x same e = ap (λ y. Ok y) (sym same) ∙ e
answer_stays (Ok a) (Err f) x same e = absurd same
answer_stays (Err f) (Ok b) x same e = absurd same
answer_stays (Err f) (Err g) x same e = cc

pub done_stays : {T : Type 0} (was is : Result T Fault) (P : Type 0) → IsExplained was is → OnOk was P → OnOk is P
done_stays (Ok a) (Ok b) P same h = h
done_stays (Ok a) (Err f) P same h = tt
done_stays (Err f) (Ok b) P same h = absurd same
done_stays (Err f) (Err g) P same h = tt

pub value_stays : {T : Type 0} (was is : Result T Fault) (P : T → Type 0) → IsExplained was is → IfOk was P → IfOk is P
value_stays (Ok a) (Ok b) P same h = rw same h
value_stays (Ok a) (Err f) P same h = tt
value_stays (Err f) (Ok b) P same h = absurd same
value_stays (Err f) (Err g) P same h = tt

pub input_stays : {T : Type 0} (was is : Result T Fault) (P : Type 0) → IsExplained was is → IfErr was (λ e. status_of e ≡ 1 → P)
    → IfErr is (λ e. status_of e ≡ 1 → P)
input_stays (Ok a) (Ok b) P same h = tt
input_stays (Ok a) (Err f) P same h = absurd same
input_stays (Err f) (Ok b) P same h = tt
input_stays (Err f) (Err g) P same h = λ one. h (sym same.status ∙ one)

pub failed_stays : {T : Type 0} (was is : Result T Fault) (P : Type 0) → IsExplained was is → IfErr was (λ e. P) → IfErr is (λ e. P)
failed_stays (Ok a) (Ok b) P same h = tt
failed_stays (Ok a) (Err f) P same h = absurd same
failed_stays (Err f) (Ok b) P same h = tt
failed_stays (Err f) (Err g) P same h = h

pub run_write_stays : {T : Type 0} (was is : Result T Fault) (P : Type 0) → IsExplained was is → IfErr was (λ e. (e ≡ fault.Run run.Write) ⊎ P)
    → IfErr is (λ e. (e ≡ fault.Run run.Write) ⊎ P)
run_write_stays (Ok a) (Ok b) P same h = tt
run_write_stays (Ok a) (Err f) P same h = absurd same
run_write_stays (Err f) (Ok b) P same h = tt
run_write_stays (Err f) (Err g) P same (inl w) = inl (same.write (inr w) ∙ w)
run_write_stays (Err f) (Err g) P same (inr p) = inr p

pub write_stays : {T : Type 0} (was is : Result T Fault) (P : Type 0) → IsExplained was is → IfErr was (λ e. (e ≡ fault.Write) ⊎ P)
    → IfErr is (λ e. (e ≡ fault.Write) ⊎ P)
write_stays (Ok a) (Ok b) P same h = tt
write_stays (Ok a) (Err f) P same h = absurd same
write_stays (Err f) (Ok b) P same h = tt
write_stays (Err f) (Err g) P same (inl w) = inl (same.write (inl w) ∙ w)
write_stays (Err f) (Err g) P same (inr p) = inr p
