-- The lines of the program's output.
use Rattle.std.specs.Prelude.{ℕ, ◌+◌, ◌*◌, length, Bool, true, false, List, ◌++◌}
use Rattle.std.specs.Prelude.{Option, Some, None, codes}
use Rattle.std.specs.Fmt.{decimal}
use Rattle.hex.specs.Hex.{encode_lower}
use Rattle.afdx_input_lines.specs.declared.frame_line.FrameKind.{FrameKind}
use Rattle.afdx_input_lines.specs.declared.frame_line.FrameKind.TheVariants.{Good, Bad, Raw}
use Rattle.afdx_police.specs.declared.shape.Reason.{Reason}
use Rattle.afdx_police.specs.Words.{reason_word}
use Rattle.afdx_receive.specs.Words.{drop_word}
use Rattle.afdx_text.specs.declared.check_lines.CheckLine.{CheckLine}
use Rattle.afdx_text.specs.declared.check_lines.CheckLine.TheVariants.{Bounds, Margin, Admitted, Denied}
use Rattle.afdx_text.specs.declared.check_lines.CheckLine.TheVariants.{Switch, EndToEnd, Apart}
use Rattle.afdx_text.specs.declared.line.OutLine.{OutLine}
use Rattle.afdx_text.specs.declared.line.OutLine.TheVariants.{Verdict, Lost, Left, Message, Unread}
use Rattle.afdx_text.specs.declared.line.OutLine.TheVariants.{Listed, Remark, Refused, Check, Conform}
use Rattle.afdx_text.specs.ConformLines.{conform_text}
pub use Rattle.afdx_text.specs.Places.{side_text, place_text, site_text}

-- no reason to drop a frame: it is accepted
abbrev pub verdict_text : Option Reason → List ℕ
verdict_text None = codes "accept"
verdict_text (Some reason) = codes "drop " ++ reason_word reason

-- the line of a verdict on the frame of line n, at a place
abbrev pub verdict_line : ℕ → (place : List ℕ) → Option Reason → List ℕ
verdict_line n place reason =
    codes "V " ++ decimal n ++ codes " " ++ place ++ codes " " ++ verdict_text reason
    ++ codes "\n"

-- a copy of the frame of line n was lost at a port of a place
abbrev pub loss_line : ℕ → (place : List ℕ) → ℕ → List ℕ
loss_line n place port =
    codes "L " ++ decimal n ++ codes " " ++ place ++ codes " " ++ decimal port ++ codes "\n"

abbrev pub letter_of : (is_too_old : Bool) → List ℕ
letter_of false = codes "D "
letter_of true = codes "T "

-- the frame of line n left an output port, or was dropped there as too old
abbrev pub departure_line : Bool → ℕ → ℕ → (place : List ℕ) → ℕ → List ℕ
departure_line is_too_old n time place port =
    letter_of is_too_old ++ decimal n ++ codes " " ++ decimal time ++ codes " "
    ++ place ++ codes " " ++ decimal port ++ codes "\n"

-- the `M` line of a message of a link that a system read at this time
abbrev pub message_line : ℕ → List ℕ → ℕ → List ℕ → List ℕ
message_line time name vl message =
    codes "M " ++ decimal time ++ codes " " ++ name ++ codes " " ++ decimal vl ++ codes " "
    ++ encode_lower message ++ codes "\n"

-- the `X` line of the frame of a line of the list that a system dropped
abbrev pub drop_line : ℕ → List ℕ → ℕ → List ℕ → List ℕ
drop_line time name line word =
    codes "X " ++ decimal time ++ codes " " ++ name ++ codes " " ++ decimal line ++ codes " "
    ++ word ++ codes "\n"

abbrev pub kind_letter : FrameKind → List ℕ
kind_letter Good = codes "F "
kind_letter Bad = codes "B "
kind_letter Raw = codes "R "

-- a line of a frame list
abbrev pub frame_line : FrameKind → (place : List ℕ) → ℕ → ℕ → List ℕ → List ℕ
frame_line kind place port time bytes =
    kind_letter kind ++ decimal time ++ codes " " ++ place ++ codes " " ++ decimal port
    ++ codes " " ++ encode_lower bytes ++ codes "\n"

-- a frame that was sent on one network, to a place
abbrev pub sent_line : (place : List ℕ) → ℕ → ℕ → List ℕ → List ℕ
sent_line place port time bytes = frame_line Raw place port time bytes

-- the number n of a recording is skipped: a remark in a list
abbrev pub remark_line : List ℕ → ℕ → List ℕ
remark_line word n = codes "# " ++ word ++ codes " " ++ decimal n ++ codes "\n"

-- the line of a message, on line n, that isn't taken
abbrev pub refused_line : ℕ → List ℕ → List ℕ
refused_line n word = codes "# " ++ decimal n ++ codes " " ++ word ++ codes "\n"

-- a bound in ns, or a dash where there is none
abbrev pub bound_text : Option ℕ → List ℕ
bound_text (Some bound) = decimal bound
bound_text None = codes "-"

-- the high and the low bound of an output port in ns, and the bytes of buffer that are needed there
abbrev pub bounds_line : ℕ → ℕ → Option ℕ → ℕ → List ℕ
bounds_line port high low buffer =
    codes "P " ++ decimal port ++ codes " " ++ decimal high ++ codes " " ++ bound_text low
    ++ codes " " ++ decimal buffer ++ codes "\n"

-- a link that goes to an output port: the bound of its class there, and its latency, in ns
abbrev pub margin_line : ℕ → ℕ → Option ℕ → ℕ → List ℕ
margin_line port vl bound latency =
    codes "m " ++ decimal port ++ codes " " ++ decimal vl ++ codes " " ++ bound_text bound
    ++ codes " " ++ decimal latency ++ codes "\n"

-- the tables are admitted, or not, by a line of admission
abbrev pub admitted_line : List ℕ
admitted_line = codes "ok\n"

abbrev pub denied_line : List ℕ → List ℕ
denied_line line = codes "no " ++ line ++ codes "\n"

-- the lines of the ports of a switch follow, of which there are several
abbrev pub switch_line : List ℕ → List ℕ
switch_line name = codes "S " ++ name ++ codes "\n"

-- a link and a system that it goes to: the sum of the link's latencies on the way there, in ns, or
-- a dash where the way is broken
abbrev pub end_to_end_line : ℕ → List ℕ → Option ℕ → List ℕ
end_to_end_line vl system ns =
    codes "E " ++ decimal vl ++ codes " " ++ system ++ codes " " ++ bound_text ns ++ codes "\n"

-- a link, and how far apart the copies of a frame may be sent, in ns, or a dash where no system
-- gets it
abbrev pub apart_line : ℕ → Option ℕ → List ℕ
apart_line vl ns = codes "apart " ++ decimal vl ++ codes " " ++ bound_text ns ++ codes "\n"

-- a line of `check`
abbrev pub check_line : CheckLine → List ℕ
check_line (Bounds port high low buffer) = bounds_line port high low buffer
check_line (Margin port vl bound latency) = margin_line port vl.0 bound latency
check_line Admitted = admitted_line
check_line (Denied line) = denied_line line.now
check_line (Switch name) = switch_line name.now
check_line (EndToEnd vl system ns) = end_to_end_line vl.0 system.now ns
check_line (Apart vl ns) = apart_line vl.0 ns

abbrev pub line_text : OutLine → List ℕ
line_text (Verdict n site reason) = verdict_line n (site_text site) reason
line_text (Lost n site port) = loss_line n (site_text site) port
line_text (Left n time site port is_too_old) =
    departure_line is_too_old n time (site_text site) port
line_text (Message time system vl bytes) = message_line time system.now vl.0 bytes.now
line_text (Unread time system n why) = drop_line time system.now n (drop_word why)
line_text (Listed kind time site port bytes) =
    frame_line kind (site_text site) port time bytes.now
line_text (Remark word n) = remark_line word.now n
line_text (Refused n word) = refused_line n word.now
line_text (Check line) = check_line line
line_text (Conform line) = conform_text line

-- at least as many bytes as a line of `check` has, and any line
abbrev pub longest_check : CheckLine → ℕ
longest_check (Bounds port high low buffer) = 128
longest_check (Margin port vl bound latency) = 128
longest_check Admitted = 128
longest_check (Denied line) = 128 + length line.now
longest_check (Switch name) = 128 + length name.now
longest_check (EndToEnd vl system ns) = 128 + length system.now
longest_check (Apart vl ns) = 128

abbrev pub longest : OutLine → ℕ
longest (Verdict n site reason) = 128 + length site.switch.now
longest (Lost n site port) = 128 + length site.switch.now
longest (Left n time site port is_too_old) = 128 + length site.switch.now
longest (Message time system vl bytes) = 128 + length system.now + 2 * length bytes.now
longest (Unread time system n why) = 128 + length system.now
longest (Listed kind time site port bytes) =
    128 + length site.switch.now + 2 * length bytes.now
longest (Remark word n) = 128 + length word.now
longest (Refused n word) = 128 + length word.now
longest (Check line) = longest_check line
longest (Conform line) = 384
