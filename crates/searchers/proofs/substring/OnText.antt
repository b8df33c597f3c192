-- The occurrences of a text lie on boundaries.
use Rattle.std.proofs.Common.{ℕ, List, Some, None, Option, sym, subst}
use Rattle.std.specs.List.{concat}
use Rattle.anystr.specs.Elements.{Boundary, OccursOnBoundaries}
use Rattle.searchers.specs.Marks.{Bounded, Finds, FindsBack, OnBoundaries}
use Rattle.searchers.specs.declared.mark.Mark.{Mark}
use Rattle.searchers.specs.substring.Occurrences.{occurrence, occurrence-is}

module _ (es : List (List ℕ)) (n : List ℕ) (whole : OccursOnBoundaries es n) where
  -- so each mark of the needle lies on boundaries
  pub occurrences_on : Bounded es (occurrence n (concat es))
  occurrences_on a e m =
      let o = occurrence-is n (concat es) a e m in
      let w = whole a o.nonempty o.occurs in
      (w.0, subst (Boundary es) (sym o.end) w.1)

  -- and so does what is found, from the start and from the end
  pub found_on : (from : ℕ) (r : Option Mark) → Finds (occurrence n (concat es)) from r → OnBoundaries es r
  found_on from None h = tt
  found_on from (Some m) h = occurrences_on m.start m.end h.is

  pub found_back_on : (before : ℕ) (r : Option Mark) → FindsBack (occurrence n (concat es)) before r → OnBoundaries es r
  found_back_on before None h = tt
  found_back_on before (Some m) h = occurrences_on m.start m.end h.is
