-- The forms of the lines of faults, as the tables of the code have them, and those that the format
-- fixes: `n` is a number.
use Rattle.std.specs.Prelude.{ℕ, ◌≡◌, List, [], ◌∷◌, codes, map}
use Rattle.afdx_input_lines.specs.declared.fault.TheConstants.{RUN_FAULTS}
use Rattle.afdx_input_lines.specs.declared.recording_fault.TheConstants.{RECORDING_FAULTS}

unfoldable pub run_forms : List (List ℕ)
run_forms = map (λ row. row.0.now) RUN_FAULTS

unfoldable pub recording_forms : List (List ℕ)
recording_forms = map (λ row. row.0.now) RECORDING_FAULTS

abbrev pub TheRunForms : Type 0
TheRunForms = run_forms
    ≡ codes "list BadLine n" ∷ codes "list BadHex n" ∷ codes "list TimeBack n"
    ∷ codes "list TimeTooLarge n" ∷ codes "list BadPort n" ∷ codes "list LineTooLong n"
    ∷ codes "list TooManyLines" ∷ codes "device Read" ∷ codes "device Write" ∷ codes "memory" ∷ []

abbrev pub TheRecordingForms : Type 0
TheRecordingForms = recording_forms
    ≡ codes "recording NotRecording n" ∷ codes "recording BadVersion n"
    ∷ codes "recording Damaged n" ∷ codes "recording Ended n" ∷ codes "recording NoArrival n"
    ∷ codes "recording NotEthernet n" ∷ codes "recording NoTime n" ∷ codes "recording BadTime n"
    ∷ codes "recording Cut n" ∷ codes "recording FcsUnclear n" ∷ codes "recording TimeBack n"
    ∷ codes "recording TimeTooLarge n" ∷ codes "recording Packed" ∷ codes "recording Absent n"
    ∷ codes "recording Lossy n" ∷ []
