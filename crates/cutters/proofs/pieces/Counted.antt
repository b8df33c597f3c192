-- Pieces that are counted to the end.
use Rattle.std.proofs.Common.{◌≡◌, List, length, Some, None, Option, sym, ap, ◌∙◌}
use Rattle.std.specs.Iterator.{Drains, YieldsFirstBy}
use Rattle.std.proofs.lemmas.Iterator.{items_from_drains}
use Rattle.std.proofs.lemmas.Iterator.Consumers.{YieldsList-from_shown}
use Rattle.std.proofs.lemmas.List.{length-map}
use Rattle.searchers.specs.Marks.{Span}
use Rattle.cutters.specs.Calls.{span}
use Rattle.cutters.specs.declared.piece.Piece.{Piece}

-- as many come as are left
pub counted : {S : Type 0} (steps : S → Option Piece → S → Type 0) (left : S → List Span)
    → ((s : S) (r : Option Piece) (t : S) → steps s r t → YieldsFirstBy span left s r t)
    → (s : S) (ps : List Piece) → Drains steps s ps → length ps ≡ length (left s)
counted steps left gives s ps h =
    sym (length-map ps span)
    ∙ ap length
    (items_from_drains ps (h.1.0, h.1.1, λ _. (h.0, h.1.2))
    (YieldsList-from_shown steps span left (λ t u k. ap length (gives t None u k).0)
    (λ t p u k. gives t (Some p) u k) s))
