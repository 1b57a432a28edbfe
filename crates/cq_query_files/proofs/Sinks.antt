-- The texts that sinks have taken.
use Rattle.std.proofs.Common.{◌≡◌, ℕ, inl, inr, List, [], ◌++◌, length, take, drop, append-nil, append_assoc, Option, Some, None, refl, sym, ap, ◌∙◌, subst}
use Rattle.std.proofs.Math.Seq.{take-append_seam}
use Rattle.std.proofs.lemmas.List.{take-append-drop}
use Rattle.cq_outside.specs.Faults.{Rose}
use Rattle.cq_outside.specs.Flow.{Grew}
use Rattle.cq_query_files.specs.Views.{SinkView, Sinks, IsUnwritten, NoWriteFailed, OneSinkFailed, SinkFailed, sinks_of}

-- a sink that was not written to has taken nothing more
pub unwritten : (taken : Option (List ℕ)) → Grew taken taken []
unwritten None = tt
unwritten (Some bytes) = sym (append-nil bytes)

pub took_nothing : (before after : SinkView) → after ≡ before → Grew before.taken after.taken []
took_nothing before after e = subst (λ (s : SinkView). Grew before.taken s.taken []) (sym e) (unwritten before.taken)

pub wrote_none : (sinks : Sinks) → IsUnwritten sinks → NoWriteFailed sinks
wrote_none sinks same = record { out = ap (λ (s : SinkView). s.faults) same.out; err = ap (λ (s : SinkView). s.faults) same.err }

-- one text after another
pub grew_on : (a b c : Option (List ℕ)) (xs ys : List ℕ) → Grew a b xs → Grew b c ys → Grew a c (xs ++ ys)
grew_on a b None xs ys f g = tt
grew_on a None (Some c) xs ys f g = absurd g
grew_on None (Some b) (Some c) xs ys f g = absurd f
grew_on (Some a) (Some b) (Some c) xs ys f g = g ∙ ap (λ l. l ++ ys) f ∙ append_assoc a xs ys

-- the text that is written begins with the text that was taken
pub grew_part : (a b : Option (List ℕ)) (part rest : List ℕ) → Grew a b part → Grew a b (take (length part) (part ++ rest))
grew_part a b part rest f = subst (Grew a b) (sym (take-append_seam part rest)) f

-- a sink, before some texts and after a part of them
pub record Took (before after : Option (List ℕ)) (text : List ℕ) : Type 0 where
  pub part : List ℕ
  pub rest : List ℕ
  pub is : text ≡ part ++ rest
  pub grew : Grew before after part

pub took_count : (a b : Option (List ℕ)) (text : List ℕ) (count : ℕ) → Grew a b (take count text) → Took a b text
took_count a b text count f = record { part = take count text; rest = drop count text; is = sym (take-append-drop count text); grew = f }

-- some text was taken, and then a part of the next
pub took_on : (a b c : Option (List ℕ)) (xs ys more : List ℕ) → Grew a b xs → Took b c ys → Took a c (xs ++ (ys ++ more))
took_on a b c xs ys more f t = record {
  part = xs ++ t.part;
  rest = t.rest ++ more;
  is = ap (λ l. xs ++ (l ++ more)) t.is ∙ ap (λ l. xs ++ l) (append_assoc t.part t.rest more) ∙ sym (append_assoc xs t.part (t.rest ++ more));
  grew = grew_on a b c xs t.part f t.grew;
}

-- all of a text was taken, and nothing of what follows
pub took_front : (a b : Option (List ℕ)) (xs more : List ℕ) → Grew a b xs → Took a b (xs ++ more)
took_front a b xs more f = record { part = xs; rest = more; is = refl; grew = f }

pub prefix_of : (a b : Option (List ℕ)) (text : List ℕ) → (t : Took a b text) → Grew a b (take (length t.part) text)
prefix_of a b text t = subst (λ l. Grew a b (take (length t.part) l)) (sym t.is) (grew_part a b t.part t.rest t.grew)

-- the two sinks at three moments: as a call began, at this one, and after one write more
pub record Moments : Type 0 where
  pub out : SinkView
  pub now_out : SinkView
  pub new_out : SinkView
  pub err : SinkView
  pub now_err : SinkView
  pub new_err : SinkView

abbrev pub until_now : Moments → Sinks
until_now at = sinks_of at.out at.now_out at.err at.now_err

abbrev pub from_now : Moments → Sinks
from_now at = sinks_of at.now_out at.new_out at.now_err at.new_err

abbrev pub in_all : Moments → Sinks
in_all at = sinks_of at.out at.new_out at.err at.new_err

-- the same, where one sink alone is written to once more
abbrev pub with_out : Sinks → SinkView → Sinks
with_out sinks out = sinks_of sinks.out out sinks.err sinks.err_after

abbrev pub with_err : Sinks → SinkView → Sinks
with_err sinks err = sinks_of sinks.out sinks.out_after sinks.err err

abbrev pub then_out : Sinks → SinkView → Moments
then_out sinks out = record {
  out = sinks.out;
  now_out = sinks.out_after;
  new_out = out;
  err = sinks.err;
  now_err = sinks.err_after;
  new_err = sinks.err_after;
}

abbrev pub then_err : Sinks → SinkView → Moments
then_err sinks err = record {
  out = sinks.out;
  now_out = sinks.out_after;
  new_out = sinks.out_after;
  err = sinks.err;
  now_err = sinks.err_after;
  new_err = err;
}

-- if no write had failed, the one that failed after that is the only one
pub fails_after : (at : Moments) → NoWriteFailed (until_now at) → OneSinkFailed (from_now at) → OneSinkFailed (in_all at)
fails_after at none (inl (rose, same)) = inl (subst (λ n. Rose n at.new_out.faults) none.out rose, same ∙ none.err)
fails_after at none (inr (rose, same)) = inr (subst (λ n. Rose n at.new_err.faults) none.err rose, same ∙ none.out)

pub none_after : (at : Moments) → NoWriteFailed (until_now at) → NoWriteFailed (from_now at) → NoWriteFailed (in_all at)
none_after at none later = record { out = later.out ∙ none.out; err = later.err ∙ none.err }

pub some_failed : (sinks : Sinks) → OneSinkFailed sinks → SinkFailed sinks
some_failed sinks (inl (rose, same)) = inl rose
some_failed sinks (inr (rose, same)) = inr rose
