use Rattle.std.proofs.Common.{[], length, None, replicate, get_or, ap, ◌∙◌}
use Rattle.std.proofs.lemmas.List.{get_or-replicate}
use Rattle.rolls.proofs.sums.Sums.new.Goals as goal

pub returns : goal.returns
returns c = record {
  owners = λ m hm. ap length (get_or-replicate 360 m (replicate 16 None) [] hm);
  sums = λ m o hm ho. ap (λ owners. get_or owners o None) (get_or-replicate 360 m (replicate 16 None) [] hm) ∙ get_or-replicate 16 o None None ho;
}
