mod PeerLines
