-- Requests with their replies.
use Rattle.nbd_lang.specs.Requests.{RequestSent}
use Rattle.nbd_lang.specs.Replies.{Reply}

-- a request and its reply
pub record Exchange : Type 0 where
  pub sent : RequestSent
  pub reply : Reply

abbrev pub sent_of : Exchange → RequestSent
sent_of exchange = exchange.sent

abbrev pub told_of : Exchange → Reply
told_of exchange = exchange.reply
