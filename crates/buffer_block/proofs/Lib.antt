mod Arcs
mod Crosses
mod Housing
mod Rooms
mod Vecs
