-- How a fault is written: its line's word, which is that of its row, then what it speaks of.
use Rattle.std.specs.Prelude.{ℕ, ◌≡◌, nat_eq, if◌then◌else◌, List, [], ◌∷◌, ◌++◌, codes, decimal, map}
use Rattle.std.specs.Prelude.{slice_index_or}
use Rattle.afdx_admit.specs.contracts.fault.AdmitFault.{the_type}
use Rattle.afdx_admit.specs.declared.fault.AdmitFault.{AdmitFault}
use Rattle.afdx_admit.specs.declared.fault.AdmitFault.TheVariants.{Overload, Buffer, HighLatency}
use Rattle.afdx_admit.specs.declared.fault.AdmitFault.TheVariants.{LowLatency, SenderJitter}
use Rattle.afdx_admit.specs.declared.fault.AdmitFault.TheVariants.{LinkJitter, Skew}
use Rattle.afdx_admit.specs.declared.fault.TheConstants.{ADMISSION}
use Rattle.afdx_admit.specs.declared.cascade_fault.SwitchFault.{SwitchFault}
use Rattle.afdx_admit.specs.declared.cascade_fault.SwitchFault.TheVariants.{Own, Unfed, Contract}
use Rattle.afdx_admit.specs.declared.cascade_fault.SwitchFault.TheVariants.{HopJitter, PathSkew}
use Rattle.afdx_admit.specs.declared.cascade_fault.SwitchFault.TheVariants.{Unread}
use Rattle.afdx_admit.specs.declared.cascade_fault.TheConstants.{CASCADE_ADMISSION}
use denote.Enum.Declared.{tag_of}

-- the words of the table, in their order
unfoldable pub line_words : List (List ℕ)
line_words = map (λ row. row.0.now) ADMISSION

abbrev pub line_word : AdmitFault → List ℕ
line_word fault = slice_index_or line_words (tag_of the_type fault) []

-- the bound of a low link: where there is none, it is 0
abbrev pub low_bound_text : ℕ → List ℕ
low_bound_text bound = if nat_eq bound 0 then codes "-" else decimal bound

-- what a fault speaks of: numbers, a link's identifier, or the name of a sender
abbrev pub subject : List ℕ → AdmitFault → List ℕ
subject name (Overload port) = decimal port
subject name (Buffer port needed) = decimal port ++ codes " " ++ decimal needed
subject name (HighLatency port vl bound) =
    decimal port ++ codes " " ++ decimal vl.0 ++ codes " " ++ decimal bound
subject name (LowLatency port vl bound) =
    decimal port ++ codes " " ++ decimal vl.0 ++ codes " " ++ low_bound_text bound
subject name (SenderJitter system ns) = name ++ codes " " ++ decimal ns
subject name (LinkJitter vl needed) = decimal vl.0 ++ codes " " ++ decimal needed
subject name (Skew vl) = decimal vl.0

-- with the name of the sender that it speaks of
abbrev pub fault_text : List ℕ → AdmitFault → List ℕ
fault_text name fault = line_word fault ++ codes " " ++ subject name fault

-- the words that the formats fix, in the order of `AdmitFault`
abbrev pub TheLineWords : Type 0
TheLineWords = line_words
    ≡ codes "A1" ∷ codes "A2" ∷ codes "A3" ∷ codes "A4" ∷ codes "A5" ∷ codes "A6" ∷ codes "A7" ∷ []

-- ---- in a cascade

-- the words of the lines that join a link's rows, in their order
unfoldable pub hop_words : List (List ℕ)
hop_words = map (λ row. row.0.now) CASCADE_ADMISSION

-- a switch's own line has its word; the others stand behind it in `SwitchFault`
abbrev pub switch_word : SwitchFault → List ℕ
switch_word (Own fault) = line_word fault
switch_word (Unfed vl) = slice_index_or hop_words 0 []
switch_word (Contract vl) = slice_index_or hop_words 1 []
switch_word (HopJitter vl needed) = slice_index_or hop_words 2 []
switch_word (PathSkew vl needed) = slice_index_or hop_words 3 []
switch_word (Unread vl place) = slice_index_or hop_words 4 []

abbrev pub switch_subject : List ℕ → SwitchFault → List ℕ
switch_subject name (Own fault) = subject name fault
switch_subject name (Unfed vl) = decimal vl.0
switch_subject name (Contract vl) = decimal vl.0
switch_subject name (HopJitter vl needed) = decimal vl.0 ++ codes " " ++ decimal needed
switch_subject name (PathSkew vl needed) = decimal vl.0 ++ codes " " ++ decimal needed
switch_subject name (Unread vl place) = decimal vl.0 ++ codes " " ++ name

-- with the name of the switch that it stands at, and of what it speaks of
abbrev pub switch_fault_text : (switch name : List ℕ) → SwitchFault → List ℕ
switch_fault_text switch name fault =
    switch_word fault ++ codes " " ++ switch ++ codes " " ++ switch_subject name fault

-- the words that the formats fix
abbrev pub TheHopWords : Type 0
TheHopWords = hop_words
    ≡ codes "B1" ∷ codes "B2" ∷ codes "B3" ∷ codes "B4" ∷ codes "B5" ∷ []
