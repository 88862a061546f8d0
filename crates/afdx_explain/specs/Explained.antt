-- What the lines of the program mean: each list stands in the table beside its type.
use Rattle.std.specs.Prelude.{ℕ, ◌-◌, Bool, ◌||◌, if◌then◌else◌, List, length, Option, Some, None}
use Rattle.std.specs.Prelude.{codes, map, take, drop, nat_eq}
use Rattle.std.specs.List.{starts_with}
use Rattle.std.specs.Str.{bytes_eq}
use Rattle.afdx_frame.specs.declared.fault.TheConstants.{MAC_FAULTS, IP_FAULTS}
use Rattle.afdx_police.specs.declared.shape.TheConstants.{REASONS}
use Rattle.afdx_config.specs.declared.fault.TheConstants.{CONFIG_FAULTS}
use Rattle.afdx_config.specs.declared.key_tables.TheConstants.{TOP_KEYS, SYSTEM_KEYS, LINK_KEYS}
use Rattle.afdx_config.specs.declared.key_tables.TheConstants.{PORT_KEYS, UNKNOWN_KEYS}
use Rattle.afdx_config.specs.declared.cascade_keys.TheConstants.{CASCADE_KEYS, SWITCH_KEYS}
use Rattle.afdx_config.specs.declared.cascade_keys.TheConstants.{NEIGHBOUR_KEYS, WIDER_KEYS}
use Rattle.afdx_admit.specs.declared.fault.TheConstants.{ADMISSION}
use Rattle.afdx_admit.specs.declared.cascade_fault.TheConstants.{CASCADE_ADMISSION}
use Rattle.afdx_receive.specs.declared.reception.TheConstants.{DROP_REASONS}
use Rattle.afdx_send.specs.declared.fault.TheConstants.{SEND_FAULTS}
use Rattle.afdx_input_sources.specs.declared.skipped.TheConstants.{SKIPPED}
use Rattle.afdx_conform.specs.declared.strangeness.TheConstants.{STRANGE_REASONS}
use Rattle.afdx_input_lines.specs.declared.fault.TheConstants.{RUN_FAULTS}
use Rattle.afdx_input_lines.specs.declared.recording_fault.TheConstants.{RECORDING_FAULTS}
use Rattle.afdx_text.specs.declared.sender_words.TheConstants.{FLAW_REASONS, NO_SOURCE_REASONS}
use Rattle.afdx_explain.specs.Forms.{text_among, row_among, formed_row, formed_among}
use Rattle.afdx_explain.specs.Forms.{named_among, named_row}
use Rattle.afdx_explain.specs.declared.conform_lines.TheConstants.{CONFORM_LINES}
use Rattle.afdx_explain.specs.declared.faults.TheConstants.{FAULTS}
use Rattle.afdx_explain.specs.declared.kinds.TheConstants.{KINDS}
use Rattle.afdx_explain.specs.declared.lines.TheConstants.{LINES}

abbrev pub or_else : Option (List ℕ) → Option (List ℕ) → Option (List ℕ)
or_else (Some text) other = Some text
or_else None other = other

-- ---- faults: of the words and files, of a run, of a recording, of a whole configuration, of a
-- key, and the lines of admission, of a switch and from one switch to the next

unfoldable pub fault : List ℕ → Option (List ℕ)
fault line = text_among (map (λ entry. (entry.0.now, entry.1.now)) FAULTS) line

unfoldable pub run_fault : List ℕ → Option (List ℕ)
run_fault line = text_among (map (λ entry. (entry.0.now, entry.1.now)) RUN_FAULTS) line

-- how the fault of one of two lists begins
abbrev pub is_of_two : List ℕ → Bool
is_of_two line =
    starts_with nat_eq line (codes "list came ") || starts_with nat_eq line (codes "list left ")

-- the fault of one of two lists: the fault of a list, behind the word for which list it is
unfoldable pub list_fault : List ℕ → Option (List ℕ)
list_fault line =
    if is_of_two line
    then text_among (map (λ entry. (drop 5 entry.0.now, entry.1.now)) (take 7 RUN_FAULTS))
    (drop 10 line)
    else None

-- ` A` or ` B`, which stands behind a fault of one of two recordings
abbrev pub is_network : List ℕ → Bool
is_network word = bytes_eq word (codes " A") || bytes_eq word (codes " B")

-- ` came` or ` left`, which stands there with `conform`
abbrev pub is_role : List ℕ → Bool
is_role word = bytes_eq word (codes " came") || bytes_eq word (codes " left")

-- the line but for what says, at its end, of which of two recordings it is
unfoldable pub without_recording : List ℕ → List ℕ
without_recording line =
    if is_network (drop (length line - 2) line) then take (length line - 2) line
    else (if is_role (drop (length line - 5) line) then take (length line - 5) line else line)

unfoldable pub recording_fault : List ℕ → Option (List ℕ)
recording_fault line =
    text_among (map (λ entry. (entry.0.now, entry.1.now)) RECORDING_FAULTS)
    (without_recording line)

unfoldable pub config_fault : List ℕ → Option (List ℕ)
config_fault line =
    formed_among (map (λ row. formed_row row.0.now row.1.now row.2.now) (take 2 CONFIG_FAULTS)) line

unfoldable pub top_key : List ℕ → Option (List ℕ)
top_key line = text_among (map (λ key. (key.3.now, key.4.now)) TOP_KEYS) line

unfoldable pub system_key : List ℕ → Option (List ℕ)
system_key line = text_among (map (λ key. (key.3.now, key.4.now)) SYSTEM_KEYS) line

unfoldable pub link_key : List ℕ → Option (List ℕ)
link_key line = text_among (map (λ key. (key.3.now, key.4.now)) LINK_KEYS) line

unfoldable pub port_key : List ℕ → Option (List ℕ)
port_key line = text_among (map (λ key. (key.3.now, key.4.now)) PORT_KEYS) line

-- where the file describes several switches: of its top, of a switch, of a neighbour, and of keys
-- that say more there
unfoldable pub cascade_key : List ℕ → Option (List ℕ)
cascade_key line = text_among (map (λ key. (key.3.now, key.4.now)) CASCADE_KEYS) line

unfoldable pub switch_key : List ℕ → Option (List ℕ)
switch_key line = text_among (map (λ key. (key.3.now, key.4.now)) SWITCH_KEYS) line

unfoldable pub neighbour_key : List ℕ → Option (List ℕ)
neighbour_key line = text_among (map (λ key. (key.3.now, key.4.now)) NEIGHBOUR_KEYS) line

unfoldable pub wider_key : List ℕ → Option (List ℕ)
wider_key line = text_among (map (λ entry. (entry.0.now, entry.1.now)) WIDER_KEYS) line

unfoldable pub key_of_several : List ℕ → Option (List ℕ)
key_of_several line =
    or_else (cascade_key line) (or_else (switch_key line) (or_else (neighbour_key line)
    (wider_key line)))

unfoldable pub unknown_key : List ℕ → Option (List ℕ)
unknown_key line = text_among (map (λ entry. (entry.0.now, entry.1.now)) UNKNOWN_KEYS) line

unfoldable pub key : List ℕ → Option (List ℕ)
key line =
    or_else (top_key line) (or_else (system_key line) (or_else (link_key line)
    (or_else (port_key line) (or_else (key_of_several line) (unknown_key line)))))

unfoldable pub admission : List ℕ → Option (List ℕ)
admission line = formed_among (map (λ row. formed_row row.0.now row.1.now row.2.now) ADMISSION) line

unfoldable pub hop : List ℕ → Option (List ℕ)
hop line =
    formed_among (map (λ row. formed_row row.0.now row.1.now row.2.now) CASCADE_ADMISSION) line

-- ---- lines of the output, and words in them: why a switch or a receiver dropped a frame, why a
-- message was refused or a number of a recording skipped, and the other lines

unfoldable pub dropped : List ℕ → Option (List ℕ)
dropped line =
    row_among (codes "?\nV n A|B drop ?\nV n A|B * drop ?")
    (map (λ row. (row.1.now, row.2.now)) REASONS) line

unfoldable pub no_frame : List ℕ → Option (List ℕ)
no_frame line =
    row_among (codes "?\nX n * n ?") (map (λ row. (row.1.now, row.2.now)) MAC_FAULTS) line

unfoldable pub not_received : List ℕ → Option (List ℕ)
not_received line =
    row_among (codes "?\nX n * n ?") (map (λ row. (row.1.now, row.2.now)) DROP_REASONS) line

unfoldable pub no_datagram : List ℕ → Option (List ℕ)
no_datagram line =
    row_among (codes "?\nX n * n ?") (map (λ row. (row.1.now, row.2.now)) IP_FAULTS) line

-- out of memory ends a run, and is in no line
unfoldable pub refused : List ℕ → Option (List ℕ)
refused line =
    row_among (codes "?\n# n ?") (map (λ row. (row.1.now, row.2.now)) (take 5 SEND_FAULTS)) line

unfoldable pub skipped : List ℕ → Option (List ℕ)
skipped line =
    row_among (codes "?\n# ? n") (map (λ row. (row.1.now, row.2.now)) SKIPPED) line

-- at a switch that was recorded: why a frame that left is strange, by its shape or else; why one
-- that left was to be dropped, by its shape or by its link's rule; and the other lines
unfoldable pub strange_shape : List ℕ → Option (List ℕ)
strange_shape line =
    row_among (codes "?\nstrange n A|B n ?")
    (map (λ row. (row.1.now, row.2.now)) (take 5 REASONS)) line

unfoldable pub strange : List ℕ → Option (List ℕ)
strange line =
    row_among (codes "?\nstrange n A|B n ?")
    (map (λ row. (row.1.now, row.2.now)) STRANGE_REASONS) line

unfoldable pub passed_damaged : List ℕ → Option (List ℕ)
passed_damaged line =
    row_among (codes "passed n A|B n ?")
    (map (λ row. (row.1.now, row.2.now)) (take 3 REASONS)) line

unfoldable pub passed : List ℕ → Option (List ℕ)
passed line =
    row_among (codes "passed n A|B n ?")
    (map (λ row. (row.1.now, row.2.now)) (drop 5 REASONS)) line

-- of a system as a sender: why a frame isn't lawful by itself, for what a switch or a receiver
-- would drop it, or in a word of its own
unfoldable pub unlawful_damaged : List ℕ → Option (List ℕ)
unlawful_damaged line =
    row_among (codes "unlawful n A|B n ?")
    (map (λ row. (row.1.now, row.2.now)) (take 3 REASONS)) line

unfoldable pub unlawful_link : List ℕ → Option (List ℕ)
unlawful_link line =
    row_among (codes "unlawful n A|B n ?")
    (map (λ row. (row.1.now, row.2.now)) (drop 4 (take 5 REASONS))) line

unfoldable pub unlawful_length : List ℕ → Option (List ℕ)
unlawful_length line =
    row_among (codes "unlawful n A|B n ?")
    (map (λ row. (row.1.now, row.2.now)) (drop 6 (take 8 REASONS))) line

unfoldable pub unlawful_datagram : List ℕ → Option (List ℕ)
unlawful_datagram line =
    row_among (codes "unlawful n A|B n ?") (map (λ row. (row.1.now, row.2.now)) IP_FAULTS) line

unfoldable pub unlawful_address : List ℕ → Option (List ℕ)
unlawful_address line =
    row_among (codes "?\nunlawful n A|B n ?")
    (map (λ row. (row.1.now, row.2.now)) FLAW_REASONS) line

unfoldable pub unlawful_source : List ℕ → Option (List ℕ)
unlawful_source line =
    row_among (codes "?\nunlawful n A|B n ?")
    (map (λ row. (row.1.now, row.2.now)) NO_SOURCE_REASONS) line

unfoldable pub unlawful : List ℕ → Option (List ℕ)
unlawful line =
    or_else (unlawful_damaged line) (or_else (unlawful_link line)
    (or_else (unlawful_length line) (or_else (unlawful_datagram line)
    (or_else (unlawful_address line) (unlawful_source line)))))

unfoldable pub judged : List ℕ → Option (List ℕ)
judged line = text_among (map (λ entry. (entry.0.now, entry.1.now)) CONFORM_LINES) line

unfoldable pub found : List ℕ → Option (List ℕ)
found line =
    or_else (strange_shape line) (or_else (strange line) (or_else (passed_damaged line)
    (or_else (passed line) (or_else (unlawful line) (judged line)))))

unfoldable pub told : List ℕ → Option (List ℕ)
told line = text_among (map (λ entry. (entry.0.now, entry.1.now)) LINES) line

-- ---- names of faults, without a place or a number

unfoldable pub named_fault : List ℕ → Option (List ℕ)
named_fault line = named_among (map (λ entry. (entry.0.now, entry.1.now)) FAULTS) line

unfoldable pub named_run_fault : List ℕ → Option (List ℕ)
named_run_fault line = named_among (map (λ entry. (entry.0.now, entry.1.now)) RUN_FAULTS) line

unfoldable pub named_recording_fault : List ℕ → Option (List ℕ)
named_recording_fault line =
    named_among (map (λ entry. (entry.0.now, entry.1.now)) RECORDING_FAULTS) line

unfoldable pub named_config_fault : List ℕ → Option (List ℕ)
named_config_fault line =
    named_row (map (λ row. formed_row row.0.now row.1.now row.2.now) (take 8 CONFIG_FAULTS)) line

unfoldable pub named : List ℕ → Option (List ℕ)
named line =
    or_else (named_fault line) (or_else (named_run_fault line)
    (or_else (named_recording_fault line) (named_config_fault line)))

-- ---- all of them

unfoldable pub any_fault : List ℕ → Option (List ℕ)
any_fault line =
    or_else (fault line) (or_else (run_fault line) (or_else (list_fault line)
    (or_else (recording_fault line) (or_else (config_fault line)
    (or_else (key line) (or_else (admission line) (hop line)))))))

unfoldable pub any_line : List ℕ → Option (List ℕ)
any_line line =
    or_else (dropped line) (or_else (no_frame line) (or_else (not_received line)
    (or_else (no_datagram line) (or_else (refused line) (or_else (skipped line)
    (or_else (found line) (told line)))))))

-- what the line itself means
unfoldable pub meaning_of : List ℕ → Option (List ℕ)
meaning_of line = or_else (any_fault line) (or_else (any_line line) (named line))

-- ---- what is said of all lines of its kind

unfoldable pub config_kind : List ℕ → Option (List ℕ)
config_kind line =
    formed_among
    (map (λ row. formed_row row.0.now row.1.now row.2.now) (drop 2 (take 8 CONFIG_FAULTS))) line

unfoldable pub other_kind : List ℕ → Option (List ℕ)
other_kind line = text_among (map (λ entry. (entry.0.now, entry.1.now)) KINDS) line

unfoldable pub kind_of : List ℕ → Option (List ℕ)
kind_of line = or_else (config_kind line) (other_kind line)
