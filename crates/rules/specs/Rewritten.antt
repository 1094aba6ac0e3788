-- What stands in a file can be written: the reading of a record is writable, and its header lines and items are good.
use Rattle.std.specs.Prelude.{ℕ, [], ◌∷◌, ◌++◌}
use Rattle.std.proofs.Common.{subst}
use Rattle.text.specs.Text.{Bytes, Line, bytes, Each}
use Rattle.text.specs.Columns.{spaces, Allowed}
use Rattle.rules.specs.Forms.{DataHeader}
use Rattle.rules.specs.Canon.{GoodName}

-- ---- Items

each_right : (P : ℕ → Type 0) (a b : Bytes) → Each P (a ++ b) → Each P b
unfolding Each
each_right P [] b h = h
each_right P (x ∷ a) b h = each_right P a b h.1

each_left : (P : ℕ → Type 0) (a b : Bytes) → Each P (a ++ b) → Each P a
unfolding Each
each_left P [] b h = tt
each_left P (x ∷ a) b h = (h.0, each_left P a b h.1)

pub good_name : {l : Line} {name : Bytes} → DataHeader l name → GoodName name
good_name {l} {name} h =
    let tail = bytes ">" ++ spaces h.after in
    let a = subst (Each Allowed) h.parts h.line.allowed in
    let b = each_right Allowed (bytes ">") (spaces h.between ++ (bytes "<" ++ (name ++ tail))) a in
    let c = each_right Allowed (spaces h.between) (bytes "<" ++ (name ++ tail)) b in
    let d = each_right Allowed (bytes "<") (name ++ tail) c in
    record { allowed = each_left Allowed name tail d; low = h.name_low; high = h.name_high; no_open = h.no_open; no_close = h.no_close }
