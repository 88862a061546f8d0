-- The text of each fault: its line on standard error, without its line feed.
use Rattle.std.specs.Prelude.{ℕ, ◌≡◌, List, [], ◌∷◌, ◌++◌, codes, decimal, map}
use Rattle.afdx_input_lines.specs.declared.list_fault.ListFault.{ListFault}
use Rattle.afdx_input_lines.specs.declared.list_fault.ListFault.TheVariants as list
use Rattle.afdx_input_lines.specs.declared.recording_fault.RecordingFault.{RecordingFault}
use Rattle.afdx_input_lines.specs.declared.recording_fault.RecordingFault.TheVariants as recording
use Rattle.afdx_input_lines.specs.declared.one_of_two.OneOfTwo.{OneOfTwo}
use Rattle.afdx_input_lines.specs.declared.one_of_two.OneOfTwo.TheVariants as two
use Rattle.afdx_input_lines.specs.declared.one_of_two.Which.{Which}
use Rattle.afdx_input_lines.specs.declared.one_of_two.Which.TheVariants as which
use Rattle.afdx_input_lines.specs.declared.fault.RunFault.{RunFault}
use Rattle.afdx_input_lines.specs.declared.fault.RunFault.TheVariants as run

-- a word, and the number of a line, a frame or a block, or a count
abbrev pub numbered : List ℕ → ℕ → List ℕ
numbered word n = word ++ ((codes " " ++ decimal n))

-- what is wrong with one of two lists
abbrev pub list_text : ListFault → List ℕ
list_text (list.BadLine n) = numbered (codes "BadLine") n
list_text (list.BadHex n) = numbered (codes "BadHex") n
list_text (list.TimeBack n) = numbered (codes "TimeBack") n
list_text (list.TimeTooLarge n) = numbered (codes "TimeTooLarge") n
list_text (list.BadPort n) = numbered (codes "BadPort") n
list_text (list.LineTooLong n) = numbered (codes "LineTooLong") n
list_text list.TooManyLines = codes "TooManyLines"

-- what is wrong with a recording
abbrev pub recording_text : RecordingFault → List ℕ
recording_text (recording.NotRecording n) = numbered (codes "recording NotRecording") n
recording_text (recording.BadVersion n) = numbered (codes "recording BadVersion") n
recording_text (recording.Damaged n) = numbered (codes "recording Damaged") n
recording_text (recording.Ended n) = numbered (codes "recording Ended") n
recording_text (recording.NoArrival n) = numbered (codes "recording NoArrival") n
recording_text (recording.NotEthernet n) = numbered (codes "recording NotEthernet") n
recording_text (recording.NoTime n) = numbered (codes "recording NoTime") n
recording_text (recording.BadTime n) = numbered (codes "recording BadTime") n
recording_text (recording.Cut n) = numbered (codes "recording Cut") n
recording_text (recording.FcsUnclear n) = numbered (codes "recording FcsUnclear") n
recording_text (recording.TimeBack n) = numbered (codes "recording TimeBack") n
recording_text (recording.TimeTooLarge n) = numbered (codes "recording TimeTooLarge") n
recording_text recording.Packed = codes "recording Packed"
recording_text (recording.Absent n) = numbered (codes "recording Absent") n
recording_text (recording.Lossy n) = numbered (codes "recording Lossy") n

-- which of two inputs that are read at once
abbrev pub which_text : Which → List ℕ
which_text which.A = codes "A"
which_text which.B = codes "B"
which_text which.Came = codes "came"
which_text which.Left = codes "left"

-- what is wrong with one of them, and with which
abbrev pub one_of_two_text : OneOfTwo → List ℕ
one_of_two_text (two.Recording one fault) = recording_text fault ++ (codes " " ++ which_text one)
one_of_two_text (two.List one fault) =
    codes "list " ++ (which_text one ++ (codes " " ++ list_text fault))

-- why a run ended before the end of its list or recording
abbrev pub fault_text : RunFault → List ℕ
fault_text (run.BadLine n) = numbered (codes "list BadLine") n
fault_text (run.BadHex n) = numbered (codes "list BadHex") n
fault_text (run.TimeBack n) = numbered (codes "list TimeBack") n
fault_text (run.TimeTooLarge n) = numbered (codes "list TimeTooLarge") n
fault_text (run.BadPort n) = numbered (codes "list BadPort") n
fault_text (run.LineTooLong n) = numbered (codes "list LineTooLong") n
fault_text run.TooManyLines = codes "list TooManyLines"
fault_text run.Read = codes "device Read"
fault_text run.Write = codes "device Write"
fault_text run.Memory = codes "memory"
fault_text (run.Recording fault) = recording_text fault
fault_text (run.Of fault) = one_of_two_text fault

-- the lines of faults of one list or recording
abbrev pub TheLinesOfOne : Type 0
TheLinesOfOne = (n : ℕ) → map fault_text (run.BadLine n ∷ run.BadHex n ∷ run.TimeBack n
    ∷ run.TimeTooLarge n ∷ run.BadPort n ∷ run.LineTooLong n ∷ run.TooManyLines ∷ run.Read
    ∷ run.Write ∷ run.Memory ∷ run.Recording (recording.Cut n) ∷ [])
    ≡ (codes "list BadLine " ++ decimal n) ∷ (codes "list BadHex " ++ decimal n)
    ∷ (codes "list TimeBack " ++ decimal n) ∷ (codes "list TimeTooLarge " ++ decimal n)
    ∷ (codes "list BadPort " ++ decimal n) ∷ (codes "list LineTooLong " ++ decimal n)
    ∷ codes "list TooManyLines" ∷ codes "device Read" ∷ codes "device Write" ∷ codes "memory"
    ∷ (codes "recording Cut " ++ decimal n) ∷ []

-- of one of two
abbrev pub TheLinesOfTwo : Type 0
TheLinesOfTwo = (n : ℕ) → map one_of_two_text (two.Recording which.A recording.Packed
    ∷ two.Recording which.B recording.Packed ∷ two.Recording which.Came recording.Packed
    ∷ two.Recording which.Left recording.Packed ∷ two.List which.Came (list.BadLine n)
    ∷ two.List which.Left list.TooManyLines ∷ [])
    ≡ codes "recording Packed A" ∷ codes "recording Packed B" ∷ codes "recording Packed came"
    ∷ codes "recording Packed left" ∷ (codes "list came BadLine " ++ decimal n)
    ∷ codes "list left TooManyLines" ∷ []

-- of a recording
abbrev pub TheLinesOfRecordings : Type 0
TheLinesOfRecordings = (n : ℕ) → map recording_text (recording.NotRecording n
    ∷ recording.BadVersion n ∷ recording.Damaged n ∷ recording.Ended n ∷ recording.NoArrival n
    ∷ recording.NotEthernet n ∷ recording.NoTime n ∷ recording.BadTime n ∷ recording.Cut n
    ∷ recording.FcsUnclear n ∷ recording.TimeBack n ∷ recording.TimeTooLarge n
    ∷ recording.Packed ∷ recording.Absent n ∷ recording.Lossy n ∷ [])
    ≡ (codes "recording NotRecording " ++ decimal n) ∷ (codes "recording BadVersion " ++ decimal n)
    ∷ (codes "recording Damaged " ++ decimal n) ∷ (codes "recording Ended " ++ decimal n)
    ∷ (codes "recording NoArrival " ++ decimal n) ∷ (codes "recording NotEthernet " ++ decimal n)
    ∷ (codes "recording NoTime " ++ decimal n) ∷ (codes "recording BadTime " ++ decimal n)
    ∷ (codes "recording Cut " ++ decimal n) ∷ (codes "recording FcsUnclear " ++ decimal n)
    ∷ (codes "recording TimeBack " ++ decimal n) ∷ (codes "recording TimeTooLarge " ++ decimal n)
    ∷ codes "recording Packed" ∷ (codes "recording Absent " ++ decimal n)
    ∷ (codes "recording Lossy " ++ decimal n) ∷ []

-- and what stands behind the name of one of two lists
abbrev pub TheTextsOfLists : Type 0
TheTextsOfLists = (n : ℕ) → map list_text (list.BadLine n ∷ list.BadHex n ∷ list.TimeBack n
    ∷ list.TimeTooLarge n ∷ list.BadPort n ∷ list.LineTooLong n ∷ list.TooManyLines ∷ [])
    ≡ (codes "BadLine " ++ decimal n) ∷ (codes "BadHex " ++ decimal n)
    ∷ (codes "TimeBack " ++ decimal n) ∷ (codes "TimeTooLarge " ++ decimal n)
    ∷ (codes "BadPort " ++ decimal n) ∷ (codes "LineTooLong " ++ decimal n)
    ∷ codes "TooManyLines" ∷ []
