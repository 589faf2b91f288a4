-- The parts of a parameter as text.
use Rattle.std.proofs.lemmas.Grind.{common_steps}
use Rattle.std.proofs.lemmas.List.Sums.{prefix_len-drop_yes, prefix_len-drop_no, prefix_len-drop_all}

pub ruleset key_steps = (common_steps, prefix_len-drop_yes, prefix_len-drop_no, prefix_len-drop_all)
