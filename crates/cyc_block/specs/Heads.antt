-- Head blocks as the definitions have them (docs/FORMATS.md, Head blocks).
use Rattle.cyc_block.specs.declared.head.HeadNumbers.{HeadNumbers}
use Rattle.cyc_block.specs.declared.head.HeadState.{HeadState}
use Rattle.cyc_block.specs.declared.head.HeadState.TheVariants as states
use Rattle.news_terms.specs.HeadBlocks.{HeadBlock}
use Rattle.news_terms.specs.HeadBlocks as terms

-- a state
abbrev pub state_view : HeadState → terms.HeadState
state_view states.Open = terms.Open
state_view states.Closed = terms.Closed

-- the numbers of a head block
abbrev pub head_view : HeadNumbers → HeadBlock
head_view n = record {
  state = state_view n.state;
  number = n.number;
  blocks = n.blocks;
  first_cycle = n.first_cycle;
  cycle = n.cycle;
  head = n.head;
  stop = n.stop;
  begun = n.begun;
  stored = n.stored;
}
