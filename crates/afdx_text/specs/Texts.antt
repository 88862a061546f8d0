-- Text that is put together line by line.
use Rattle.std.specs.Prelude.{ℕ, ◌+◌, ◌≤◌, List, take, vec_len}
use Rattle.afdx_text.specs.declared.line.OutLine.{OutLine}
use Rattle.afdx_text.specs.declared.text.Text.{Text}
use Rattle.afdx_text.specs.OutLines.{longest}

-- the bytes of a text: the first of its room
unfoldable pub text_bytes : Text → List ℕ
text_bytes text = take text.end text.room.items

-- the text needn't grow for a line
abbrev pub HasRoomFor : Text → OutLine → Type 0
HasRoomFor text line = text.end + longest line ≤ vec_len text.room
