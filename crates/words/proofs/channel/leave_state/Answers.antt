use native.Mathlib.Omega.{arith}
use mathlib.Core.Bool.{true, false}
use mathlib.Core.Path.{sym, ◌∙◌}
use Rattle.words.proofs.Channels.{after-closed, after-reading, after-writing}
use Rattle.words.specs.Words.{words_of}
use Rattle.words.proofs.channel.leave_state.Goals as goal

pub returns-in-Reading : goal.returns-in-Reading
unfolding words_of
returns-in-Reading c = rw c.in-Reading.is (c.write_words-in-Reading.ensures ∙ sym (after-reading _ _ _ _ _ c.requires))

pub returns-then-not-same : goal.returns-then-not-same
unfolding words_of
returns-then-not-same c = rw c.in-Writing.is (c.write_words-then-not-same.ensures ∙ sym (after-writing _ _ _ false c.if-not-same.true))

pub returns-else-not-same : goal.returns-else-not-same
returns-else-not-same c = rw c.in-Writing.is (sym (after-writing _ _ _ true c.if-not-same.false))

pub returns-then-matches : goal.returns-then-matches
unfolding words_of
returns-then-matches c = rw c.in-Closed.is (c.write_words.ensures ∙ sym (after-closed _ true (grind arith)))

pub returns-else-matches : goal.returns-else-matches
returns-else-matches c = rw c.in-Closed.is (sym (after-closed _ false (grind arith)))
