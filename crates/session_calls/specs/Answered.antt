-- What a line that was read answers, and what it leaves: the text, the bytes after, and what these stand for.
use Rattle.std.specs.Prelude.{ℕ, cond, true, List, [], ◌∷◌, ◌≡◌, Option, None, Some}
use Rattle.rules.specs.Numbers.{SMALL}
use Rattle.rules.specs.Bytes.{ascii}
use Rattle.rules.specs.Session.{Line, mount, umount, walk, look, text_of, line_request, answers}
use Rattle.tables.specs.View.{view}
use Rattle.tables.specs.Laid.{laid}
use Rattle.mount_parts.specs.Mounting.{mount_mem}
use Rattle.vfs.specs.Unmounting.{unmount_mem}
use Rattle.decimal.specs.declared.inner.Text.{Text}
use Rattle.decimal.specs.Text.{Appended}

-- on bytes against the layout rule: SMALL with zeros, as many fields as the line's answer has; `?` for a line of another form (R19, R144, R145)
unfoldable pub small_text : Option Line → List ℕ
small_text None = ascii "?"
small_text (Some (mount path tag root largest)) = text_of (SMALL ∷ 0 ∷ 0 ∷ [])
small_text (Some (umount path)) = text_of (SMALL ∷ 0 ∷ 0 ∷ [])
small_text (Some (walk path)) = text_of (SMALL ∷ 0 ∷ [])
small_text (Some (look node name)) = text_of (SMALL ∷ 0 ∷ [])

-- the text of a line that was read: by the rule on the instance that the bytes stand for (R137)
unfoldable pub line_text : List ℕ → Option Line → List ℕ
line_text mem l = cond (laid mem) (answers (view mem) l).text (small_text l)

-- the bytes after it: a mount's and an unmount's, else as they were
unfoldable pub line_mem : Option Line → List ℕ → List ℕ
line_mem None mem = mem
line_mem (Some (mount path tag root largest)) mem = mount_mem (line_request path tag root largest) mem
line_mem (Some (umount path)) mem = unmount_mem path mem
line_mem (Some (walk path)) mem = mem
line_mem (Some (look node name)) mem = mem

-- a line that was read, answered: its text in the lent output, at most 45 bytes; the bytes exactly; they stand for what the rule leaves, and keep the layout rule (R137 to R152)
pub record Answered (mem : List ℕ) (l : Option Line) (was now : Text) (after : List ℕ) : Type 0 where
  pub text : Appended was 45 (line_text mem l) now
  pub bytes : after ≡ line_mem l mem
  pub stands : laid mem ≡ true → view after ≡ (answers (view mem) l).instance
  pub keeps : laid mem ≡ true → laid after ≡ true
